-- Laws of the halves of a split: the room at the index, set to what the half keeps, makes the half. Assumes nothing.
use mathlib.Core.Path.{◌≡◌, sym, ap, ◌∙◌}
use Prim.Native.Nat.{ℕ}
use lib.ListN.{get_or, set}
use Rattle.sets.specs.Sets.{single, smallest, others}
use Rattle.steps.specs.Boxes.{first_half, other_half}
use Rattle.rooms.specs.Held.{Held, with_box}
use Rattle.splitting.specs.declared.halves.Half.{Half}
use Rattle.splitting.specs.declared.halves.Half.TheVariants.{First, Other}
use Rattle.splitting.specs.Promise.{half_of, KeepsHalf}

module _ (rooms : Held) (i : ℕ) {half : Half} {room : ℕ} where
  -- the first keeps the smallest value alone
  pub first-kept : half ≡ First → room ≡ single (smallest (get_or rooms.box i 0)) → KeepsHalf half rooms i (with_box (set rooms.box i room) rooms)
  unfolding half_of first_half
  first-kept is kept = ap (λ (m : ℕ). with_box (set rooms.box i m) rooms) kept ∙ sym (ap (λ (h : Half). with_box (half_of h i rooms.box) rooms) is)

  -- the other keeps the others
  pub other-kept : half ≡ Other → room ≡ others (get_or rooms.box i 0) → KeepsHalf half rooms i (with_box (set rooms.box i room) rooms)
  unfolding half_of other_half
  other-kept is kept = ap (λ (m : ℕ). with_box (set rooms.box i m) rooms) kept ∙ sym (ap (λ (h : Half). with_box (half_of h i rooms.box) rooms) is)
