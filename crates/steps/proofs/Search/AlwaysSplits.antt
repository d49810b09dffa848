-- Request R-8 of document 02: an unsettled box which is not dead, once shrinking is over, always has a position that step 4 can split (`always-splits`). So the
-- search has no answer for a box where it finds none. The theorem rests on two laws of a part, *inside* and *steady* (`part-inside`, `part_steady`), which
-- `in_turn_inward` and `in_turn_steady` lift to rules and to files: a new kind of part that keeps them has it as it stands. Assumes nothing.
use mathlib.Core.Path.{◌≡◌, refl}
use mathlib.Core.Logic.{◌↔◌}
use mathlib.Core.Bool.{Bool, true, false}
use mathlib.Core.List.{List}
use Prim.Native.Nat.{ℕ, ◌+◌, ◌-◌, ◌<◌}
use native.Mathlib.Omega.{arith}
use lib.Dec.{T}
use lib.ListN.{length}
use Rattle.lists.proofs.LowestLaws.{lowest-none}
use Rattle.lists.proofs.TestLaws.{true_test}
use Rattle.rules.specs.Rules.{Field}
use Rattle.steps.specs.Boxes.{room_at, Rooms}
use Rattle.steps.specs.Shrinking.{alive, shrunk, settled}
use Rattle.steps.specs.Search.{splittable, chosen}
use Rattle.steps.proofs.Looks.FittingRules.{FitsBox, fits-inside}
use Rattle.steps.proofs.Looks.LiveTests.{settled-none_live}
use Rattle.steps.proofs.Looks.ShrinkLaws.{round_steady, shrunk-inside, shrunk_fixed}
use Rattle.steps.proofs.Search.Chosen.{may_split, chosen-lowest, live_splits}

-- the index of a position that step 4 can split: it has two or more values, and is live in a part that is not settled (`may_split`)
abbrev pub CanSplit : List Field → List ℕ → ℕ → Type 0
CanSplit fields box i = (i < length box) × T (splittable fields box i)

module _ (fields : List Field) where
  -- in a settled box step 4 can split no position
  none_left : (box : List ℕ) → settled fields box ≡ true → chosen fields box ≡ length box
  unfolding chosen
  none_left box e =
      lowest-none (splittable fields box) (length box)
      (λ i h t. settled-none_live fields box (i + 1) (true_test (settled fields box) e) ((may_split fields box i).0 t).1)

  -- a box that is not dead, and what is left of it once shrinking is over
  module _ (box inner : List ℕ) (rooms : Rooms box) (fits : FitsBox fields box) (living : shrunk fields box ≡ alive inner) where
    -- if it is unsettled, it always has a position that step 4 can split
    pub always-splits : settled fields inner ≡ false → (i : ℕ) × CanSplit fields inner i
    unfolding room_at
    always-splits u =
        let kept = shrunk-inside fields box inner rooms living in
        let s = round_steady fields inner kept.1 (fits-inside fields inner box kept.0 fits) (shrunk_fixed fields box inner rooms living) u in
        (s.0 - 1, (omega (arith, s.2, s.3), live_splits fields inner s.0 s.1 s.4))

    -- so the position that step 4 splits is there
    pub split-there : settled fields inner ≡ false → chosen fields inner < length inner
    split-there u = let s = always-splits u in omega (arith, s.1.0, chosen-lowest fields inner s.0 s.1.1)

    -- and it is settled exactly if step 4 can split no position
    pub settled-exactly : (settled fields inner ≡ true) ↔ (chosen fields inner ≡ length inner)
    settled-exactly = (none_left inner, λ e. go e (settled fields inner) refl)
      where
        go : chosen fields inner ≡ length inner → (b : Bool) → settled fields inner ≡ b → settled fields inner ≡ true
        go e true t = t
        go e false u = absurd (omega (arith, split-there u))
