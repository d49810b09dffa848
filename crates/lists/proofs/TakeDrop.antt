-- Laws of the parts of a list that are written: those from a place on, and those up to v. Assumes nothing.
use mathlib.Core.Path.{◌≡◌, sym, ap, ◌∙◌}
use mathlib.Core.List.{List, ◌∷◌}
use Prim.Native.Nat.{ℕ, ◌+◌, ◌-◌, ◌≤◌, ◌<◌, min}
use native.Mathlib.Nat.{le_of_eq}
use native.Mathlib.Decide.{dec_le}
use native.Mathlib.Numerals.{add-one}
use native.Mathlib.Omega.{arith}
use lib.ListN.{length, get_or, take, drop, length-drop}
use lib.Seq.{drop-cons, take_all}

-- the first element from a place on, and those behind it
pub drop_next : (xs : List ℕ) (i : ℕ) → i < length xs → drop i xs ≡ get_or xs i 0 ∷ drop (i + 1) xs
drop_next xs i lt = rw (add-one, drop-cons xs i 0)

-- the part of a list from a place on
pub rest_part : (k : ℕ) (xs : List ℕ) → take (length xs - k) (drop k xs) ≡ drop k xs
rest_part k xs = take_all (length xs - k) (drop k xs) (le_of_eq (length-drop k xs))

-- of a list that is shorter than v the first v are all
pub take_smaller : (v : ℕ) (xs : List ℕ) → take (min v (length xs)) xs ≡ take v xs
take_smaller v xs = by_size (dec_le v (length xs))
  where
    by_size : Dec (v ≤ length xs) → take (min v (length xs)) xs ≡ take v xs
    by_size (yes le) = let e : min v (length xs) ≡ v = omega arith in ap (λ (n : ℕ). take n xs) e
    by_size (no gt) = take_all (min v (length xs)) xs (omega (arith, gt)) ∙ sym (take_all v xs (omega (arith, gt)))
