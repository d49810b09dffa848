-- Examples of replies in words, computed. Assumes nothing.
use mathlib.Core.Path.{◌≡◌, refl}
use mathlib.Core.List.{[]}
use Rattle.texts.specs.Bytes.{bytes_of, digits, decimal, newline}
use Rattle.reasons.specs.Words.{faults, fault_of, place_of, words_of, unmet_of, reason_of}

-- a refusal in words, with the place of its field
pub example_words : words_of 19 13 ≡ bytes_of "field at byte 13: a position that is 0 or above the number of channels\n"
unfolding words_of place_of fault_of faults newline decimal digits bytes_of
example_words = refl

-- those of a starting set (R-6), and nothing at a number that no reply has
pub example-words-starting :
    (words_of 26 13 ≡ bytes_of "field at byte 13: a starting set that is empty\n")
    × (words_of 27 13 ≡ bytes_of "field at byte 13: a second starting set for its position\n")
    × (fault_of 25 ≡ [])
    × (fault_of 28 ≡ [])
unfolding words_of place_of fault_of faults newline decimal digits bytes_of
example-words-starting = (refl, refl, refl, refl)

-- those of an at-most field (R-12), and nothing at the numbers beside it
pub example_words_twice : (words_of 36 13 ≡ bytes_of "field at byte 13: a position that is named twice\n") × (fault_of 35 ≡ []) × (fault_of 37 ≡ [])
unfolding words_of place_of fault_of faults newline decimal digits bytes_of
example_words_twice = (refl, refl, refl)

-- a refusal that stands at no field
pub example_words_start : words_of 14 0 ≡ bytes_of "the input is empty, or its first tag is not 1 (header)\n"
unfolding words_of place_of fault_of faults newline decimal digits bytes_of
example_words_start = refl

-- a NONE with a place, as R-3's own example has it, and one without
pub example-unmet : (reason_of 1 29 ≡ bytes_of "the field at byte 29 cannot be met by what the rules leave open\n") × (reason_of 1 0 ≡ [])
unfolding reason_of unmet_of newline decimal digits bytes_of
example-unmet = (refl, refl)

-- a plan has no words, and a refusal its own
pub example_reasons : (reason_of 0 0 ≡ []) × (reason_of 2 0 ≡ []) × (reason_of 14 0 ≡ words_of 14 0)
unfolding reason_of
example_reasons = (refl, refl, refl)
