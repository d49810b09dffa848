-- Laws of what is written to the front of a buffer: one element more, `over_store`, and what stands behind, `over-behind`. Assumes nothing.
use mathlib.Core.Path.{◌≡◌, sym, ap, subst, ◌∙◌}
use mathlib.Core.List.{List, [], ◌∷◌, ◌++◌}
use Prim.Native.Nat.{ℕ, suc, ◌+◌, ◌-◌, ◌≤◌, ◌<◌}
use native.Mathlib.Omega.{arith}
use lib.ListN.{length, get_or, set, drop, length-append}
use lib.Seq.{get_or-append-add, get_or-drop, drop-cons, set-append_seam, append_snoc}
use Rattle.lists.specs.Buffer.{over}

module _ {A : Type 0} (xs buffer : List A) where
  -- an element stored behind those that were written
  pub over_store : (x : A) → length xs < length buffer → set (over xs buffer) (length xs) x ≡ over (xs ++ (x ∷ [])) buffer
  over_store x lt =
      let longer : suc (length xs) ≡ length (xs ++ (x ∷ [])) = omega (arith, length-append xs (x ∷ [])) in
      ap (λ (rest : List A). set (xs ++ rest) (length xs) x) (drop-cons buffer (length xs) x lt)
      ∙ set-append_seam xs _ _ x
      ∙ sym (append_snoc xs x _)
      ∙ ap (λ (k : ℕ). (xs ++ (x ∷ [])) ++ drop k buffer) longer

-- behind the elements that were written in front, a buffer is as it was
pub over-behind : {A : Type 0} (xs buffer : List A) (i : ℕ) (d : A) → length xs ≤ i → get_or (over xs buffer) i d ≡ get_or buffer i d
over-behind xs buffer i d h = subst (λ (j : ℕ). get_or (over xs buffer) j d ≡ get_or buffer j d) so_far (rw (get_or-append-add, get_or-drop))
  where
    so_far : length xs + (i - length xs) ≡ i
    so_far = omega arith
