-- A text read back: the digits of a number, `decimal_back`, the words of a line, `line_words`, and the numbers that they are, `numbers_back`. Assumes nothing.
use mathlib.Core.Path.{◌≡◌, refl, ap, ap₂, ◌∙◌}
use mathlib.Core.Bool.{Bool, true, false}
use mathlib.Core.List.{List, [], ◌∷◌, ◌++◌, map, append_assoc, append-nil}
use Prim.Native.Nat.{ℕ, zero, suc, ◌+◌, ◌-◌, ◌*◌, ◌/◌, ◌%◌, ◌^◌, ◌<◌}
use native.Mathlib.Nat.{pow-suc}
use native.Mathlib.Decide.{dec_lt}
use native.Mathlib.Omega.{arith}
use borrow.Author.Tests.{ne_eqb}
use Rattle.lists.specs.Lists.{Every}
use Rattle.lists.proofs.ListLaws.{every-over-append}
use Rattle.texts.specs.Bytes.{digits, decimal, behind, spaced, newline}
use Rattle.texts.specs.ReadBack.{digits_after, number_in, ends_word, into_first, words_next, words_in}
use Rattle.texts.proofs.DigitLaws.{digits_small, digits_large}

-- ---- a number

-- digits behind digits
digits_after-append : (n : ℕ) (xs ys : List ℕ) → digits_after n (xs ++ ys) ≡ digits_after (digits_after n xs) ys
unfolding digits_after
digits_after-append n [] ys = refl
digits_after-append n (x ∷ xs) ys = digits_after-append (n * 10 + (x - 48)) xs ys

-- enough digits of a number read back
digits_back : (k n : ℕ) → n < 10 ^ k → number_in (digits k n) ≡ n
unfolding digits number_in digits_after
digits_back zero n lt = omega arith
digits_back (suc k) n lt = by_size (dec_lt n 10) (digits_back k (n / 10) (omega (arith, pow-suc 10 k)))
  where
    by_size : Dec (n < 10) → number_in (digits k (n / 10)) ≡ n / 10 → number_in (digits (suc k) n) ≡ n
    by_size (yes small) tenth = ap number_in (digits_small k n small) ∙ omega arith
    by_size (no large) tenth =
        ap number_in (digits_large k n (omega (arith, large)))
        ∙ digits_after-append 0 (digits k (n / 10)) ((48 + n % 10) ∷ [])
        ∙ ap (λ (m : ℕ). m * 10 + (48 + n % 10 - 48)) tenth
        ∙ omega arith

-- the decimal digits of a number read back give that number
pub decimal_back : (n : ℕ) → n < 10 ^ 20 → number_in (decimal n) ≡ n
unfolding decimal
decimal_back n lt = digits_back 20 n lt

-- ---- words

-- no byte of these ends a word
abbrev pub Plain : List ℕ → Type 0
Plain = Every (λ b. ends_word b ≡ false)

-- a digit ends no word
digit_plain : (d : ℕ) → ends_word (48 + d) ≡ false
unfolding ends_word
digit_plain d = rw (ne_eqb (48 + d) 32 (omega arith), ne_eqb (48 + d) 10 (omega arith))

digits_plain : (k n : ℕ) → Plain (digits k n)
unfolding digits
digits_plain zero n = tt
digits_plain (suc k) n = by_size (dec_lt n 10) (digits_plain k (n / 10))
  where
    by_size : Dec (n < 10) → Plain (digits k (n / 10)) → Plain (digits (suc k) n)
    by_size (yes small) tenth = rw (digits_small k n small) (digit_plain n, tt)
    by_size (no large) tenth = rw (digits_large k n (omega (arith, large))) ((every-over-append (λ b. ends_word b ≡ false) (digits k (n / 10)) ((48 + n % 10) ∷ [])).1 (tenth, (digit_plain (n % 10), tt)))

decimal_plain : (n : ℕ) → Plain (decimal n)
unfolding decimal
decimal_plain n = digits_plain 20 n

-- a word and the byte that ends it
word-ended : (xs : List ℕ) (b : ℕ) (rest : List ℕ) → Plain xs → ends_word b ≡ true → words_in (xs ++ (b ∷ rest)) ≡ xs ∷ words_in rest
unfolding words_in words_next into_first
word-ended [] b rest plain end = ap (λ (t : Bool). words_next t b (words_in rest)) end
word-ended (x ∷ xs) b rest plain end =
    ap (λ (t : Bool). words_next t x (words_in (xs ++ (b ∷ rest)))) plain.0 ∙ ap (into_first x) (word-ended xs b rest plain.1 end)

-- a space and the end of a line end a word
space_ends : ends_word 32 ≡ true
unfolding ends_word
space_ends = refl

line_ends : ends_word 10 ≡ true
unfolding ends_word
line_ends = refl

-- the words of the line of a word and numbers behind it, and of what follows the line
pub line_words : (word xs rest : List ℕ) → Plain word → words_in (word ++ (behind xs ++ (newline ++ rest))) ≡ word ∷ (map decimal xs ++ words_in rest)
unfolding behind newline
line_words word [] rest plain = word-ended word 10 rest plain line_ends
line_words word (x ∷ xs) rest plain =
    word-ended word 32 ((decimal x ++ behind xs) ++ (newline ++ rest)) plain space_ends
    ∙ ap (λ (ws : List (List ℕ)). word ∷ ws) (ap words_in (append_assoc (decimal x) (behind xs) (newline ++ rest)) ∙ line_words (decimal x) xs rest (decimal_plain x))

-- the words of a line of at least one number
pub spaced_words : (x : ℕ) (xs : List ℕ) → words_in (spaced (x ∷ xs) ++ newline) ≡ map decimal (x ∷ xs)
unfolding spaced newline words_in
spaced_words x xs =
    ap words_in (append_assoc (decimal x) (behind xs) newline) ∙ line_words (decimal x) xs [] (decimal_plain x)
    ∙ ap (λ (ws : List (List ℕ)). decimal x ∷ ws) (append-nil (map decimal xs))

-- numbers of 20 digits in decimal, read back
pub numbers_back : (xs : List ℕ) → Every (λ x. x < 10 ^ 20) xs → map number_in (map decimal xs) ≡ xs
numbers_back [] p = refl
numbers_back (x ∷ xs) p = ap₂ (λ (y : ℕ) (ys : List ℕ). y ∷ ys) (decimal_back x p.0) (numbers_back xs p.1)
