-- Laws of a reply in words: the parts of a refusal by number, how many bytes they have, and the words for a reply. Assumes nothing.
use mathlib.Core.Path.{◌≡◌}
use mathlib.Core.Bool.{Bool, true, false, cond}
use mathlib.Core.List.{List, [], ◌++◌}
use Prim.Native.Nat.{ℕ, ◌+◌, ◌-◌, ◌≤◌, ◌<◌}
use native.Mathlib.Decide.{dec_lt}
use native.Mathlib.Omega.{arith}
use lib.Dec.{ltb, eqb}
use lib.ListN.{length, get_or, length-append}
use borrow.Author.Tests.{lt-ltb, le-ltb, eq-eqb, ne_eqb}
use Rattle.lists.specs.Lists.{Every}
use Rattle.texts.specs.Bytes.{bytes_of, decimal, newline}
use Rattle.texts.proofs.DigitLaws.{decimal-length}
use Rattle.reasons.specs.Words.{faults, fault_of, around, place_of, words_of, unmet_of, reason_of}
use Rattle.reasons.proofs.RowLaws.{word-length, numbered, no_word}

-- ---- the place

-- a place with words around it has at most 20 bytes more than these
around-length : (front : List ℕ) (place : ℕ) (back : List ℕ) → length (around front place back) ≤ length front + 20 + length back
around-length front place back = omega (arith, length-append front (decimal place ++ back), length-append (decimal place) back, decimal-length place)

-- below 13 the place is no field's
pub place_below : (number place : ℕ) → number < 13 → place_of number place ≡ []
unfolding place_of
place_below number place lt = simp (lt-ltb number 13 lt)

-- nor is it at 14
pub place_start : (number place : ℕ) → number ≡ 14 → place_of number place ≡ []
unfolding place_of
place_start number place e = rw e

-- at any other number it is named
pub place_field_lem : (number place : ℕ) → 13 ≤ number → (number ≡ 14 → ⊥) → place_of number place ≡ around (bytes_of "field at byte ") place (bytes_of ": ")
unfolding place_of
place_field_lem number place le ne = simp (le-ltb number 13 le, ne_eqb number 14 ne)

-- the place has at most 36 bytes
place-length : (number place : ℕ) → length (place_of number place) ≤ 36
unfolding place_of bytes_of
place-length number place = by_number (ltb number 13) (eqb number 14)
  where
    by_number : (below start : Bool) → length (cond below [] (cond start [] (around (bytes_of "field at byte ") place (bytes_of ": ")))) ≤ 36
    by_number true start = omega arith
    by_number false true = omega arith
    by_number false false = omega (arith, around-length (bytes_of "field at byte ") place (bytes_of ": "))

-- ---- what is wrong

-- below 10 nothing is wrong
pub fault_below : (number : ℕ) → number < 10 → fault_of number ≡ []
unfolding fault_of
fault_below number lt = simp (lt-ltb number 10 lt)

-- nor at any other number that has no words
pub fault_other : (number : ℕ) → Every (λ n. number ≡ n → ⊥) (numbered 10 faults) → fault_of number ≡ []
unfolding fault_of
fault_other number other = by_size (dec_lt number 10)
  where
    by_size : Dec (number < 10) → fault_of number ≡ []
    by_size (yes lt) = fault_below number lt
    by_size (no ge) = simp (le-ltb number 10 (omega (arith, ge))) (no_word number 10 faults (number - 10) (omega (arith, ge)) other)

-- they have at most as many bytes as all words
fault-length : (number : ℕ) → length (fault_of number) ≤ 600
unfolding fault_of faults bytes_of
fault-length number = by_number (ltb number 10)
  where
    by_number : (below : Bool) → length (cond below [] (get_or faults (number - 10) [])) ≤ 600
    by_number true = omega arith
    by_number false = word-length faults (number - 10)

-- the line of a refusal has room
pub words-fit : (number place : ℕ) → length (words_of number place) ≤ 2048
unfolding words_of newline
words-fit number place =
    let fault = fault_of number in
    omega (arith, length-append (place_of number place) (fault ++ newline), length-append fault newline, place-length number place, fault-length number)

-- ---- the words for a reply

-- a NONE without a place has none
pub unmet-none : (place : ℕ) → place ≡ 0 → unmet_of place ≡ []
unfolding unmet_of
unmet-none place e = simp (eq-eqb place 0 e)

-- a NONE with a place names it, in a line that has room
pub unmet-named : (place : ℕ) → (place ≡ 0 → ⊥) → unmet_of place ≡ around (bytes_of "the field at byte ") place (bytes_of " cannot be met by what the rules leave open\n")
unfolding unmet_of
unmet-named place ne = simp (ne_eqb place 0 ne)

pub unmet_fits : (place : ℕ) → length (around (bytes_of "the field at byte ") place (bytes_of " cannot be met by what the rules leave open\n")) ≤ 2048
unfolding bytes_of
unmet_fits place = omega (arith, around-length (bytes_of "the field at byte ") place (bytes_of " cannot be met by what the rules leave open\n"))

-- NONE is 1
pub reason-none : (number place : ℕ) → number ≡ 1 → reason_of number place ≡ unmet_of place
unfolding reason_of
reason-none number place e = simp (eq-eqb number 1 e)

-- the words of a refusal, which is 10 or more
pub reason-refused : (number place : ℕ) → 10 ≤ number → reason_of number place ≡ words_of number place
unfolding reason_of
reason-refused number place le = simp (ne_eqb number 1 (λ e. omega arith), le-ltb number 10 le)

-- any other reply has none
pub reason_other : (number place : ℕ) → (number ≡ 1 → ⊥) → number < 10 → reason_of number place ≡ []
unfolding reason_of
reason_other number place ne lt = simp (ne_eqb number 1 ne, lt-ltb number 10 lt)
