-- Laws of words in a row, one for each number from a first number on: no word is longer than all of them, `word-length`, and at any other number than
-- theirs there is none, `no_word`. Assumes nothing.
use mathlib.Core.Path.{◌≡◌, refl}
use mathlib.Core.List.{List, [], ◌∷◌, ◌++◌}
use Prim.Native.Nat.{ℕ, zero, suc, ◌+◌, ◌≤◌}
use native.Mathlib.Omega.{arith}
use lib.ListN.{length, get_or, length-append}
use Rattle.lists.specs.Lists.{Every}

-- words one behind the other
abbrev pub joined : List (List ℕ) → List ℕ
joined [] = []
joined (word ∷ words) = word ++ joined words

-- a word is not longer than all of them
pub word-length : (words : List (List ℕ)) (i : ℕ) → length (get_or words i []) ≤ length (joined words)
word-length [] i = omega arith
word-length (word ∷ words) zero = omega (arith, length-append word (joined words))
word-length (word ∷ words) (suc i) = omega (arith, length-append word (joined words), word-length words i)

-- the numbers that have words, where they are counted from a first number on
abbrev pub numbered : ℕ → List (List ℕ) → List ℕ
numbered first [] = []
numbered first ([] ∷ words) = numbered (suc first) words
numbered first ((b ∷ word) ∷ words) = first ∷ numbered (suc first) words

-- at any other number there is no word
pub no_word : (number first : ℕ) (words : List (List ℕ)) (i : ℕ) → first + i ≡ number → Every (λ n. number ≡ n → ⊥) (numbered first words) → get_or words i [] ≡ []
no_word number first [] i at other = refl
no_word number first ([] ∷ words) zero at other = refl
no_word number first ([] ∷ words) (suc i) at other = no_word number (suc first) words i (omega arith) other
no_word number first ((b ∷ word) ∷ words) zero at other = absurd (other.0 (omega arith))
no_word number first ((b ∷ word) ∷ words) (suc i) at other = no_word number (suc first) words i (omega arith) other.1
