-- Laws of numbers in decimal with spaces: one number more, and how many bytes there are. Assumes nothing.
use mathlib.Core.Path.{◌≡◌, refl, sym, ap, ◌∙◌}
use mathlib.Core.List.{List, [], ◌∷◌, ◌++◌, append-nil, append_assoc}
use Prim.Native.Nat.{ℕ, ◌+◌, ◌*◌, ◌≤◌, ◌<◌}
use native.Mathlib.Omega.{arith}
use lib.ListN.{length, get_or, take, length-append}
use Rattle.texts.specs.Bytes.{decimal, behind, spaced}
use Rattle.texts.proofs.DigitLaws.{decimal-length}
use Rattle.std.proofs.lemmas.List.{take_more}

-- one number behind a space
pub behind_one : (n : ℕ) → behind (n ∷ []) ≡ (32 ∷ []) ++ decimal n
unfolding behind
behind_one n = ap (λ (zs : List ℕ). 32 ∷ zs) (append-nil (decimal n))

-- numbers, each behind a space, and then others
behind-append : (xs ys : List ℕ) → behind (xs ++ ys) ≡ behind xs ++ behind ys
unfolding behind
behind-append [] ys = refl
behind-append (x ∷ xs) ys = ap (λ (zs : List ℕ). 32 ∷ (decimal x ++ zs)) (behind-append xs ys) ∙ ap (λ (zs : List ℕ). 32 ∷ zs) (sym (append_assoc (decimal x) (behind xs) (behind ys)))

-- the first number behind a space, and then the others
pub behind-first : (x : ℕ) (xs : List ℕ) → behind (x ∷ xs) ≡ behind (x ∷ []) ++ behind xs
behind-first x xs = behind-append (x ∷ []) xs

-- the values up to a place, and that at the place
pub behind_next : (xs : List ℕ) (i : ℕ) → i < length xs → behind (take i xs) ++ behind (get_or xs i 0 ∷ []) ≡ behind (take (i + 1) xs)
behind_next xs i lt = sym (ap behind (take_more xs i 0 lt) ∙ behind-append (take i xs) (get_or xs i 0 ∷ []))

-- no value
pub spaced-none : (xs : List ℕ) → length xs < 1 → spaced xs ≡ []
unfolding spaced
spaced-none [] lt = refl
spaced-none (x ∷ xs) lt = absurd (omega arith)

-- ---- how many bytes there are

-- a number and a space before it are at most 21 bytes
pub behind-length : (xs : List ℕ) → length (behind xs) ≤ 21 * length xs
unfolding behind
behind-length [] = omega arith
behind-length (x ∷ xs) = omega (arith, length-append (decimal x) (behind xs), decimal-length x, behind-length xs)

-- numbers with spaces between are at most 21 bytes each
pub spaced-length : (xs : List ℕ) → length (spaced xs) ≤ 21 * length xs
unfolding spaced
spaced-length [] = omega arith
spaced-length (x ∷ xs) = omega (arith, length-append (decimal x) (behind xs), decimal-length x, behind-length xs)
