-- The counts of a search: splits stay within the allowance, and NONE alone has one dead end more than splits (`search_counts`). Only a plan has values
-- (`search-written`). Assumes nothing.
use mathlib.Core.Path.{◌≡◌, refl}
use mathlib.Core.List.{List, []}
use Prim.Native.Nat.{ℕ, ◌+◌, ◌≤◌}
use native.Mathlib.Omega.{arith}
use lib.Dec.{leb}
use Rattle.rules.specs.Rules.{Field}
use Rattle.steps.specs.Boxes.{Rooms}
use Rattle.steps.specs.Reply.{Reply, with_rounds}
use Rattle.steps.specs.Search.{searched, explored}
use Rattle.steps.proofs.Looks.FittingRules.{FitsBox}
use Rattle.steps.proofs.Search.Allowance.{enough-allowed}
use Rattle.steps.proofs.Search.Split.{after_none, by_allowance}
use Rattle.steps.proofs.Search.Tree.{Tree, dies, settles, divides, tree}
use Rattle.steps.proofs.Search.Walk.{walk, searched_walks}

-- what a reply counts beyond the splits s and the dead ends d before it
pub record Counted (allowed s d : ℕ) (r : Reply) : Type 0 where
  pub more : s ≤ r.splits
  pub within : r.splits ≤ allowed
  pub fewer : r.dead_ends + s ≤ d + r.splits + 1
  pub none : r.number ≡ 1 → r.dead_ends + s ≡ d + r.splits + 1
  pub others : (r.number ≡ 1 → ⊥) → r.dead_ends + s ≤ d + r.splits

pub walk_counts : {fields : List Field} {box : List ℕ} (t : Tree fields box) (allowed s d : ℕ) → s ≤ allowed → Counted allowed s d (walk t (leb allowed) s d)
walk_counts (dies place rooms e) allowed s d h = omega arith
walk_counts (settles m t) allowed s d h = omega arith
walk_counts (divides m u at p f o) allowed s d h =
    let first = walk f (leb allowed) (s + 1) d in
    by_allowance first (walk o (leb allowed)) (Counted allowed s d) allowed s d (λ spent. omega arith)
    (λ left. let c = walk_counts f allowed (s + 1) d (omega arith) in
    after_none first (walk o (leb allowed)) (Counted allowed s d)
    (λ e. let g = walk_counts o allowed first.splits first.dead_ends c.within in
    record {
      more = omega arith;
      within = g.within;
      fewer = omega (arith, c.none e);
      none = λ n. omega (arith, c.none e, g.none n);
      others = λ n. omega (arith, c.none e, g.others n);
    })
    (λ ne. omega (arith, c.others ne)))

-- the rounds play no part in it
pub counted-rounds : (rounds : ℕ) {allowed s d : ℕ} {r : Reply} → Counted allowed s d r → Counted allowed s d (with_rounds rounds r)
counted-rounds rounds c = record { more = c.more; within = c.within; fewer = c.fewer; none = c.none; others = c.others }

-- only a plan writes values
abbrev pub Written : Reply → Type 0
Written r = (r.number ≡ 0 → ⊥) → r.values ≡ []

walk-written : {fields : List Field} {box : List ℕ} (t : Tree fields box) (allowed s d : ℕ) → Written (walk t (leb allowed) s d)
walk-written (dies place rooms e) allowed s d = λ n. refl
walk-written (settles m t) allowed s d = λ n. absurd (n refl)
walk-written (divides m u at p f o) allowed s d =
    let first = walk f (leb allowed) (s + 1) d in
    let later = walk o (leb allowed) in
    by_allowance first later Written allowed s d (λ spent n. refl)
    (λ left. after_none first later Written (λ e. walk-written o allowed first.splits first.dead_ends) (λ ne. walk-written f allowed (s + 1) d))

-- ---- the search of a box

module _ (fields : List Field) (box : List ℕ) (rooms : Rooms box) (fits : FitsBox fields box) where
  -- a search counts on from the splits and the dead ends that it is given
  pub search_counts : (allowed s d : ℕ) → s ≤ allowed → Counted allowed s d (searched fields allowed box s d)
  search_counts allowed s d h = let t = tree fields box rooms fits in rw (searched_walks t allowed s d) (walk_counts t allowed s d h)

  -- without an allowance too, NONE has one dead end more than splits
  pub none-explored : (explored fields box).number ≡ 1 → (explored fields box).dead_ends ≡ (explored fields box).splits + 1
  none-explored e =
      let enough = (explored fields box).splits in
      let c = rw (enough-allowed fields box rooms fits enough (omega arith)) at (search_counts enough 0 0 (omega arith)) in
      omega (arith, c.none e)

  -- only a plan writes values
  pub search-written : (allowed s d : ℕ) → Written (searched fields allowed box s d)
  search-written allowed s d = let t = tree fields box rooms fits in rw (searched_walks t allowed s d) (walk-written t allowed s d)
