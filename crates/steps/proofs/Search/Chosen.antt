-- Step 4: the index that is chosen, and that a box may be split there (`chosen-splits`). Assumes nothing.
use mathlib.Core.Path.{◌≡◌, sym, subst}
use mathlib.Core.Logic.{◌↔◌}
use mathlib.Core.List.{List}
use Prim.Native.Nat.{ℕ, ◌+◌, ◌-◌, ◌≤◌, ◌<◌}
use native.Mathlib.Nat.{le_refl}
use native.Mathlib.Decide.{dec_lt}
use native.Mathlib.Omega.{arith}
use lib.Dec.{T}
use lib.ListN.{length, get_or}
use Rattle.lists.proofs.LowestLaws.{lowest-most, lowest_passes, lowest-at_most}
use Rattle.sets.specs.Sets.{count}
use Rattle.rules.specs.Rules.{Field}
use Rattle.rules.specs.Meaning.{MeetsFields, Before, NotEarlier, value_at}
use Rattle.steps.specs.Boxes.{InBox, Rooms, first_half, other_half}
use Rattle.steps.specs.Shrinking.{live_in_fields}
use Rattle.steps.specs.Search.{splittable, chosen}
use Rattle.steps.proofs.Boxes.BoxLaws.{in-box-inside}
use Rattle.steps.proofs.Boxes.BoxSizes.{wide-and, first_half-inside}
use Rattle.steps.proofs.Boxes.Lowered.{lowered, lowered_same, lowered_in_half, lowered_itself, halves_in_order}
use Rattle.steps.proofs.Looks.LiveTests.{live-in_range, live_in_fields_lem}
use Rattle.steps.proofs.Looks.FittingRules.{FieldsFit}
use Rattle.steps.proofs.Looks.ShrinkLaws.{LiveInFields, agree_where_live}

-- a plan of a box: an assignment in it that meets all rules
abbrev pub PlanIn : List Field → List ℕ → List ℕ → Type 0
PlanIn fields box a = InBox a box × MeetsFields a fields

-- the first in dictionary order of the assignments that are plans
abbrev pub First : (List ℕ → Type 0) → List ℕ → Type 0
First Plan a = Plan a × ((b : List ℕ) → Plan b → NotEarlier b a)

-- an index to split at: its room has two or more values, and the first plan of the first half comes before every plan of the other half
pub record SplitAt (fields : List Field) (box : List ℕ) (i : ℕ) : Type 0 where
  pub there : i < length box
  pub two : 2 ≤ count (get_or box i 0)
  pub ordered : FieldsFit (length box) fields → (a b : List ℕ) → First (PlanIn fields (first_half i box)) a → PlanIn fields (other_half i box) b → Before a b

module _ (fields : List Field) (box : List ℕ) where
  -- ---- the chosen index

  -- an index may be split exactly if its room has two or more values and its position is live in a part that is not settled
  pub may_split : (i : ℕ) → T (splittable fields box i) ↔ ((2 ≤ count (get_or box i 0)) × T (live_in_fields fields box (i + 1)))
  unfolding splittable
  may_split i = wide-and box i (live_in_fields fields box (i + 1))

  -- the chosen index is that of a room, or the number of rooms
  pub chosen-most : chosen fields box ≤ length box
  unfolding chosen
  chosen-most = lowest-most (splittable fields box) (length box)

  -- the chosen room has two or more values
  pub chosen_two : chosen fields box < length box → 2 ≤ count (get_or box (chosen fields box) 0)
  unfolding chosen
  chosen_two h = ((may_split (chosen fields box)).0 (lowest_passes (splittable fields box) (length box) h)).0

  -- an index that may be split is the chosen one, or behind it
  pub chosen-lowest : (i : ℕ) → T (splittable fields box i) → chosen fields box ≤ i
  unfolding chosen
  chosen-lowest = lowest-at_most (splittable fields box) (length box)

  -- a position that is live in a part that is not settled and has two or more values may be split
  pub live_splits : (p : ℕ) → LiveInFields fields box p → 2 ≤ count (get_or box (p - 1) 0) → T (splittable fields box (p - 1))
  live_splits p live two =
      let range = live-in_range fields box p live in
      let same : p ≡ p - 1 + 1 = omega (arith, range.0) in
      (may_split (p - 1)).1 (two, subst (λ (q : ℕ). T (live_in_fields fields box q)) same ((live_in_fields_lem box p range.0 range.1 fields).1 live))

  -- so it is the chosen one, or behind it
  pub chosen-at_most : (p : ℕ) → LiveInFields fields box p → 2 ≤ count (get_or box (p - 1) 0) → chosen fields box < p
  chosen-at_most p live two = omega (arith, (live-in_range fields box p live).0, chosen-lowest (p - 1) (live_splits p live two))

  -- and before the chosen index a position that is live in such a part has one value
  chosen_before : (p : ℕ) → p ≤ chosen fields box → LiveInFields fields box p → count (get_or box (p - 1) 0) < 2
  chosen_before p h live = go (dec_lt (count (get_or box (p - 1) 0)) 2)
    where
      go : Dec (count (get_or box (p - 1) 0) < 2) → count (get_or box (p - 1) 0) < 2
      go (yes one) = one
      go (no more) = absurd (omega (arith, chosen-at_most p live (omega arith)))

  -- ---- the order of the halves

  -- with the smallest values before the chosen index, a plan of the box is a plan
  lowered-plan : (i : ℕ) → i ≤ chosen fields box → Rooms box → FieldsFit (length box) fields → (a : List ℕ) → InBox a box → InBox (lowered i box a) box
      → MeetsFields a fields → MeetsFields (lowered i box a) fields
  lowered-plan i h rooms fits a there low m = (agree_where_live fields box a (lowered i box a) fits there low same).0 m
    where
      same : (p : ℕ) → LiveInFields fields box p → value_at a p ≡ value_at (lowered i box a) p
      same p live = sym (lowered_same i box a (p - 1) rooms there (λ l. chosen_before p (omega (arith, (live-in_range fields box p live).0)) live))

  -- the chosen index is one to split at: the first plan of the first half has the smallest values before it
  pub chosen-splits : Rooms box → chosen fields box < length box → SplitAt fields box (chosen fields box)
  chosen-splits rooms there = record { there = there; two = chosen_two there; ordered = ordered }
    where
      i : ℕ
      i = chosen fields box

      ordered : FieldsFit (length box) fields → (a b : List ℕ) → First (PlanIn fields (first_half i box)) a → PlanIn fields (other_half i box) b → Before a b
      ordered fits a b f g =
          let low : InBox (lowered i box a) (first_half i box) = lowered_in_half box i rooms a f.0.0 in
          let inner = first_half-inside box i rooms there (chosen_two there) in
          let meets = lowered-plan i (le_refl i) rooms fits a (in-box-inside a (first_half i box) box f.0.0 inner) (in-box-inside (lowered i box a) (first_half i box) box low inner) f.0.1 in
          subst (λ (c : List ℕ). Before c b) (lowered_itself box i rooms a f.0.0 (f.1 (lowered i box a) (low, meets))) (halves_in_order box i rooms there a b f.0.0 g.0)
