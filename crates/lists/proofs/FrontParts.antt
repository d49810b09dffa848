-- Laws of the first v elements of a list: from an index on, and where as many others take their place. Assumes nothing.
use mathlib.Core.Path.{◌≡◌, refl, sym, ap, ap₂, ◌∙◌}
use mathlib.Core.List.{List, [], ◌∷◌, ◌++◌}
use Prim.Native.Nat.{ℕ, zero, suc, ◌+◌, ◌≤◌, ◌<◌}
use native.Mathlib.Numerals.{add-one}
use native.Mathlib.Omega.{arith}
use lib.ListN.{length, get_or, take, drop, length-take, drop_of_length-le}
use lib.Seq.{drop-cons, get_or-take}

module _ (v i : ℕ) (l : List ℕ) where
  -- before the end: one element, and those behind it
  pub front_on : v ≤ length l → i < v → drop i (take v l) ≡ get_or l i 0 ∷ drop (i + 1) (take v l)
  front_on long h =
      drop-cons (take v l) i 0 (omega (arith, length-take v l)) ∙ ap₂ (λ (x k : ℕ). x ∷ drop k (take v l)) (get_or-take v l i 0 h) (sym (add-one i))

  -- at the end: none
  pub front_end : v ≤ i → drop i (take v l) ≡ []
  front_end h = drop_of_length-le (take v l) {i = i} (omega (arith, length-take v l))

-- as many others in front of the rest: they are the first v, and the rest is as it was
pub front-placed : (v : ℕ) (box l : List ℕ) → length box ≡ length (take v l) → (take v (box ++ drop v l) ≡ box) × (drop v (box ++ drop v l) ≡ drop v l)
front-placed zero [] l e = (refl, refl)
front-placed zero (b ∷ box) l e = absurd (omega arith)
front-placed (suc v) [] [] e = (refl, refl)
front-placed (suc v) (b ∷ box) [] e = absurd (omega arith)
front-placed (suc v) [] (x ∷ l) e = absurd (omega arith)
front-placed (suc v) (b ∷ box) (x ∷ l) e = let r = front-placed v box l (omega arith) in (ap (λ (c : List ℕ). b ∷ c) r.0, r.1)
