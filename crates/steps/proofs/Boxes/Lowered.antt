-- An assignment with the smallest values in front: where it lies, and what it comes before. Assumes nothing.
use mathlib.Core.Path.{◌≡◌, refl}
use mathlib.Core.Logic.{inl, inr}
use mathlib.Core.List.{List, [], ◌∷◌}
use Prim.Native.Nat.{ℕ, zero, suc, ◌^◌, ◌<◌}
use native.Mathlib.Decide.{ℕ_discrete}
use native.Mathlib.Numerals.{lt_of_le_of_ne}
use native.Mathlib.Omega.{arith}
use lib.ListN.{length, get_or, set}
use Rattle.sets.specs.Sets.{IsMember, single, count, smallest, others}
use Rattle.sets.proofs.Members.{member-single}
use Rattle.sets.proofs.Smallest.{smallest-least, smallest-member, others_above, count_one-member}
use Rattle.rules.specs.Meaning.{Before, NotEarlier}
use Rattle.rules.proofs.DictionaryOrder.{neither_earlier}
use Rattle.steps.specs.Boxes.{InBox, Rooms, first_half, other_half}
use Rattle.steps.proofs.Boxes.BoxLaws.{rooms_at}
use Rattle.steps.proofs.Boxes.BoxSizes.{smallest_before}

-- the assignment with the smallest values of the first i rooms in front
unfoldable pub lowered : ℕ → List ℕ → List ℕ → List ℕ
lowered zero box a = a
lowered (suc i) [] a = a
lowered (suc i) (room ∷ box) [] = []
lowered (suc i) (room ∷ box) (x ∷ a) = smallest room ∷ lowered i box a

-- where a room at or behind i was changed, it still lies in the box
lowered_in-box : (i : ℕ) (box a : List ℕ) (r : ℕ) → Rooms box → InBox a (set box i r) → InBox (lowered i box a) (set box i r)
unfolding lowered
lowered_in-box zero box a r rooms h = h
lowered_in-box (suc i) [] a r rooms h = h
lowered_in-box (suc i) (room ∷ box) [] r rooms h = absurd h
lowered_in-box (suc i) (room ∷ box) (x ∷ a) r rooms h = (smallest-member room rooms.0.0 rooms.0.1, lowered_in-box i box a r rooms.1 h.1)

-- it has the same values but where a room in front has two or more
pub lowered_same : (i : ℕ) (box a : List ℕ) (j : ℕ) → Rooms box → InBox a box → (j < i → count (get_or box j 0) < 2) → get_or (lowered i box a) j 0 ≡ get_or a j 0
unfolding lowered
lowered_same zero box a j rooms h one = refl
lowered_same (suc i) [] a j rooms h one = refl
lowered_same (suc i) (room ∷ box) [] j rooms h one = absurd h
lowered_same (suc i) (room ∷ box) (x ∷ a) zero rooms h one =
    count_one-member room (smallest room) x rooms.0.0 (one (omega arith)) (smallest-member room rooms.0.0 rooms.0.1) h.0
lowered_same (suc i) (room ∷ box) (x ∷ a) (suc j) rooms h one = lowered_same i box a j rooms.1 h.1 (λ l. one (omega arith))

-- the smallest values in front, of any two assignments where those behind come one before the other: the first comes before the second
lowered_on : (room x : ℕ) (a b : List ℕ) → room < 2 ^ 32 → IsMember x room → Before a b → Before (smallest room ∷ a) (x ∷ b)
lowered_on room x a b mask t rest = go (ℕ_discrete (smallest room) x)
  where
    go : Dec (smallest room ≡ x) → Before (smallest room ∷ a) (x ∷ b)
    go (yes e) = inr (e, rest)
    go (no apart) = inl (lt_of_le_of_ne (smallest-least room x mask t).1 apart)

-- it is the assignment itself, or comes before it
lowered-first : (i : ℕ) (box a : List ℕ) (r : ℕ) → Rooms box → InBox a (set box i r) → NotEarlier a (lowered i box a)
unfolding lowered
lowered-first zero box a r rooms h = inl refl
lowered-first (suc i) [] a r rooms h = inl refl
lowered-first (suc i) (room ∷ box) [] r rooms h = absurd h
lowered-first (suc i) (room ∷ box) (x ∷ a) r rooms h = smallest_before room x (lowered i box a) a rooms.0.0 h.0 (lowered-first i box a r rooms.1 h.1)

-- where the values of r come before those of s, it comes before every assignment with s
parts_in_order : (box : List ℕ) (i r s : ℕ) → Rooms box → i < length box → ((x y : ℕ) → IsMember x r → IsMember y s → x < y)
    → (a b : List ℕ) → InBox a (set box i r) → InBox b (set box i s) → Before (lowered i box a) b
unfolding lowered
parts_in_order [] i r s rooms there below a b h g = absurd (omega arith)
parts_in_order (room ∷ box) zero r s rooms there below [] b h g = absurd h
parts_in_order (room ∷ box) zero r s rooms there below (x ∷ a) [] h g = absurd g
parts_in_order (room ∷ box) zero r s rooms there below (x ∷ a) (y ∷ b) h g = inl (below x y h.0 g.0)
parts_in_order (room ∷ box) (suc i) r s rooms there below [] b h g = absurd h
parts_in_order (room ∷ box) (suc i) r s rooms there below (x ∷ a) [] h g = absurd g
parts_in_order (room ∷ box) (suc i) r s rooms there below (x ∷ a) (y ∷ b) h g =
    lowered_on room y (lowered i box a) b rooms.0.0 g.0 (parts_in_order box i r s rooms.1 (omega arith) below a b h.1 g.1)

module _ (box : List ℕ) (i : ℕ) (rooms : Rooms box) where
  -- an assignment of the first half with the smallest values in front is one of the first half
  pub lowered_in_half : (a : List ℕ) → InBox a (first_half i box) → InBox (lowered i box a) (first_half i box)
  unfolding first_half
  lowered_in_half a h = lowered_in-box i box a (single (smallest (get_or box i 0))) rooms h

  -- and the same assignment, where that does not come after it
  pub lowered_itself : (a : List ℕ) → InBox a (first_half i box) → NotEarlier (lowered i box a) a → lowered i box a ≡ a
  unfolding first_half
  lowered_itself a h first = neither_earlier (lowered i box a) a (lowered-first i box a (single (smallest (get_or box i 0))) rooms h) first

  -- with the smallest values in front, an assignment of the first half comes before every one of the other half
  pub halves_in_order : i < length box → (a b : List ℕ) → InBox a (first_half i box) → InBox b (other_half i box) → Before (lowered i box a) b
  unfolding first_half other_half
  halves_in_order there =
      parts_in_order box i (single (smallest (get_or box i 0))) (others (get_or box i 0)) rooms there below
    where
      mask : get_or box i 0 < 2 ^ 32
      mask = (rooms_at box i rooms there).0

      below : (x y : ℕ) → IsMember x (single (smallest (get_or box i 0))) → IsMember y (others (get_or box i 0)) → x < y
      below x y t u =
          let e : x ≡ smallest (get_or box i 0) = ((member-single (smallest (get_or box i 0)) x).0 t).2 in
          let l : smallest (get_or box i 0) < y = others_above (get_or box i 0) y mask (rooms_at box i rooms there).1 u in
          omega arith
