-- The rooms of a box that may be split: a smaller box has no more of them, and a half has fewer. Assumes nothing.
use mathlib.Core.List.{List, [], ◌∷◌}
use Prim.Native.Nat.{ℕ, zero, suc, ◌+◌, ◌-◌, ◌≤◌, ◌<◌, min}
use native.Mathlib.Omega.{arith}
use lib.ListN.{length, get_or, set}
use Rattle.sets.specs.Sets.{count}
use Rattle.sets.proofs.Counting.{count-inside}
use Rattle.steps.specs.Boxes.{BoxInside, Rooms}

-- the number of rooms with two or more values: each of them counts 1, every other 0
unfoldable pub wide_rooms : List ℕ → ℕ
wide_rooms [] = 0
wide_rooms (room ∷ box) = min 1 (count room - 1) + wide_rooms box

-- there are no more than rooms
pub wide-most : (box : List ℕ) → wide_rooms box ≤ length box
unfolding wide_rooms
wide-most [] = omega arith
wide-most (room ∷ box) = omega (arith, wide-most box)

-- a smaller box has no more of them
pub wide-inside : (b c : List ℕ) → Rooms b → Rooms c → BoxInside b c → wide_rooms b ≤ wide_rooms c
unfolding wide_rooms
wide-inside [] [] hb hc i = omega arith
wide-inside [] (s ∷ c) hb hc i = absurd i
wide-inside (r ∷ b) [] hb hc i = absurd i
wide-inside (r ∷ b) (s ∷ c) hb hc i = omega (arith, count-inside r s hb.0.0 hc.0.0 i.0, wide-inside b c hb.1 hc.1 i.1)

-- a room of two or more values that is left with one is one of them no longer
pub wide_falls : (box : List ℕ) (i r : ℕ) → i < length box → 2 ≤ count (get_or box i 0) → count r < 2 → wide_rooms (set box i r) < wide_rooms box
unfolding wide_rooms
wide_falls [] i r there two one = absurd (omega arith)
wide_falls (room ∷ box) zero r there two one = omega arith
wide_falls (room ∷ box) (suc i) r there two one = omega (arith, wide_falls box i r (omega arith) two one)
