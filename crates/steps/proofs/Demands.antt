-- The user's demands 2 and 3, of the search of a file that is within 01's limits. Assumes nothing.
use mathlib.Core.Path.{◌≡◌, sym, ap, subst}
use mathlib.Core.Logic.{◌↔◌, ◌⊎◌}
use mathlib.Core.List.{List, []}
use Prim.Native.Nat.{ℕ, ◌+◌, ◌-◌, ◌^◌, ◌≤◌, ◌<◌}
use native.Mathlib.Omega.{arith}
use lib.Dec.{T, leb}
use lib.ListN.{get_or}
use Rattle.rules.specs.Rules.{File}
use Rattle.rules.specs.Meaning.{Plan, FirstPlan}
use Rattle.rules.specs.Writing.{fields_of, Within}
use Rattle.rules.proofs.Writing.PlaceLaws.{meets-placed}
use Rattle.steps.specs.Boxes.{start_box, open_values, box_size}
use Rattle.steps.specs.Reply.{Reply, with_rounds}
use Rattle.steps.specs.Rounds.{rounds_of}
use Rattle.steps.specs.Search.{search, nowhere, searched, never, explored}
use Rattle.steps.specs.Special.{special, special_rules}
use Rattle.steps.specs.Start.{start_of}
use Rattle.steps.specs.Table.{planned, needed}
use Rattle.steps.proofs.Boxes.BoxSizes.{start-rooms, start_size, size-inside}
use Rattle.steps.proofs.Looks.FittingRules.{FieldsFit, fields_fit}
use Rattle.steps.proofs.Search.Allowance as allowance
use Rattle.steps.proofs.Search.Bounds.{depth}
use Rattle.steps.proofs.Search.Bounds as bounds
use Rattle.steps.proofs.Search.Counts.{Counted, counted-rounds, search_counts, search-written}
use Rattle.steps.proofs.Search.Decided as decided
use Rattle.steps.proofs.Search.Decided.{Start}
use Rattle.steps.proofs.Search.Tree.{tree}
use Rattle.steps.proofs.Search.Walk.{depth-never_matters}
use Rattle.steps.proofs.Search.WideRooms.{wide-most}
use Rattle.steps.proofs.Start.StartLaws.{start-positions, start_filled, start-within, start_assigned}

-- ---- the box that a search of a file starts with

module _ (file : File) (within : Within file) where
  -- at most n to the power v assignments lie in it
  start-most : box_size (start_of file) ≤ file.n ^ file.v
  start-most =
      let whole = start-rooms file.v file.n within.values.0 within.values.1 in
      omega (arith, size-inside (start_of file) (start_box file.v file.n) (start_filled file within) whole (start-within file within), start_size file.v file.n within.values.1)

  -- its rooms are not empty, the rules fit it, and its plans are the plans of the file
  pub start : Start (fields_of file) (start_of file) (Plan file)
  start = record {
    rooms = start_filled file within;
    fits = subst (λ (v : ℕ). FieldsFit v (fields_of file)) (sym (start-positions file)) (fields_fit file within);
    plans = λ a. let met = meets-placed a file in (
      λ p. let rules = met.1 p.1 in ((start_assigned file within a rules).1 p.0, rules),
      λ p. ((start_assigned file within a p.1).0 p.0, met.0 p.1),
    );
  }

  module _ (allowed : ℕ) where
    -- ---- demand 2

    -- PLAN exactly if some assignment meets the rules and the needed splits are allowed
    pub plan-exactly : ((planned file allowed).number ≡ 0) ↔ (((a : List ℕ) × Plan file a) × (needed file ≤ allowed))
    unfolding planned needed
    plan-exactly = (decided.answers start allowed).plan

    -- its values are then the first in dictionary order of all assignments that meet the rules
    pub plan-first : (planned file allowed).number ≡ 0 → FirstPlan file (planned file allowed).values
    unfolding planned
    plan-first = decided.plan-first start allowed

    -- NONE exactly if no assignment meets the rules and the needed splits are allowed
    pub none-exactly : ((planned file allowed).number ≡ 1) ↔ (((a : List ℕ) → Plan file a → ⊥) × (needed file ≤ allowed))
    unfolding planned needed
    none-exactly = (decided.answers start allowed).none

    -- UNDECIDED exactly if more splits are needed than were allowed
    pub undecided-exactly : ((planned file allowed).number ≡ 2) ↔ (allowed < needed file)
    unfolding planned needed
    undecided-exactly = (decided.answers start allowed).undecided

    -- and then the splits are the allowance
    pub undecided_spent : (planned file allowed).number ≡ 2 → (planned file allowed).splits ≡ allowed
    unfolding planned
    undecided_spent = decided.undecided_spent start allowed

    -- a search gives PLAN, NONE or UNDECIDED
    pub number-decided : (planned file allowed).number ≤ 2
    unfolding planned
    number-decided = (decided.answers start allowed).only

    -- only a plan writes values
    pub planned-written : ((planned file allowed).number ≡ 0 → ⊥) → (planned file allowed).values ≡ []
    unfolding planned
    planned-written = search-written (fields_of file) (start_of file) start.rooms start.fits allowed 0 0

    -- ---- demand 3

    -- with enough splits allowed the reply and its counts are those of the search without an allowance
    pub enough-allowed : needed file ≤ allowed → planned file allowed ≡ with_rounds (rounds_of (fields_of file) (start_of file)) (explored (fields_of file) (start_of file))
    unfolding planned needed
    enough-allowed h = ap (with_rounds (rounds_of (fields_of file) (start_of file))) (allowance.enough-allowed (fields_of file) (start_of file) start.rooms start.fits allowed h)

    -- the counts begin with no split and no dead end
    pub planned_counts : Counted allowed 0 0 (planned file allowed)
    unfolding planned
    planned_counts = counted-rounds (rounds_of (fields_of file) (start_of file)) (search_counts (fields_of file) (start_of file) start.rooms start.fits allowed 0 0 (omega arith))

    -- NONE has one dead end more than splits
    pub none_counts : (planned file allowed).number ≡ 1 → (planned file allowed).dead_ends ≡ (planned file allowed).splits + 1
    none_counts e = omega (arith, planned_counts.none e)

    -- PLAN has at most as many dead ends as splits
    pub plan_counts : (planned file allowed).number ≡ 0 → (planned file allowed).dead_ends ≤ (planned file allowed).splits
    plan_counts e = omega (arith, planned_counts.others (λ f. omega arith))

    -- splits never exceed the product of the starting sizes less one
    pub splits-bound : (planned file allowed).splits ≤ box_size (start_of file) - 1
    unfolding planned
    splits-bound = decided.splits-bound start allowed

    -- nor, with that, n ^ v - 1
    pub splits_below : (planned file allowed).splits ≤ file.n ^ file.v - 1
    splits_below = omega (arith, splits-bound, start-most)

    -- the special kind with v or more splits allowed: NONE at no split, or a plan at no dead end, at no position higher than any other plan
    pub special_decides : T (special file) → file.v ≤ allowed
        → (((planned file allowed).number ≡ 1) × ((planned file allowed).splits ≡ 0))
        ⊎ (((planned file allowed).number ≡ 0) × ((planned file allowed).dead_ends ≡ 0)
        × ((b : List ℕ) → Plan file b → (i : ℕ) → get_or (planned file allowed).values i 0 ≤ get_or b i 0))
    unfolding planned special
    special_decides kind h =
        decided.special_decides start allowed (subst (λ (v : ℕ). T (special_rules v (start_of file) (fields_of file))) (sym (start-positions file)) kind)
        (omega (arith, wide-most (start_of file), start-positions file))

  -- ---- how deep it goes

  -- What the search answers where its depth runs out never matters: whatever that is, with more depth than the start has open values it is the same search.
  pub planned_whatever : (deeper : List ℕ → ℕ → ℕ → Reply) (k : ℕ) → open_values (start_of file) < k → (allowed : ℕ)
      → with_rounds (rounds_of (fields_of file) (start_of file)) (search deeper k (fields_of file) (leb allowed) (start_of file) 0 0) ≡ planned file allowed
  unfolding planned searched
  planned_whatever deeper k enough allowed =
      ap (with_rounds (rounds_of (fields_of file) (start_of file)))
      (depth-never_matters (fields_of file) (start_of file) start.rooms start.fits deeper nowhere k _ enough (omega arith) (leb allowed) 0 0)

  -- so it is with the splits that it needs
  pub needed_whatever : (deeper : List ℕ → ℕ → ℕ → Reply) (k : ℕ) → open_values (start_of file) < k → (search deeper k (fields_of file) never (start_of file) 0 0).splits ≡ needed file
  unfolding needed explored
  needed_whatever deeper k enough =
      ap (λ (r : Reply). r.splits) (depth-never_matters (fields_of file) (start_of file) start.rooms start.fits deeper nowhere k _ enough (omega arith) never 0 0)

  -- it is at most 64 * 31 splits deep
  pub depth-bound : depth (tree (fields_of file) (start_of file) start.rooms start.fits) ≤ 1984
  depth-bound = bounds.depth-bound (fields_of file) (start_of file) start.rooms start.fits (omega (arith, start-positions file, within.positions.1))
