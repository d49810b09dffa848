-- What holds of two rooms and of what is made of them holds of their masks, `of_masks`. Assumes nothing.
use mathlib.Core.Path.{◌≡◌, sym, subst}
use Prim.Native.Nat.{ℕ}

-- the rooms have the masks a and b, and r is the mask of the third
pub of_masks : (P : ℕ → ℕ → ℕ → Type 0) {p q u a b r : ℕ} → p ≡ a → q ≡ b → r ≡ u → P p q u → P a b r
of_masks P {p} {q} {u} {a} {b} {r} first second third holds =
    subst (λ (x : ℕ). P x b r) first (subst (λ (x : ℕ). P p x r) second (subst (λ (x : ℕ). P p q x) (sym third) holds))
