-- Examples of what is printed, computed. Assumes nothing.
use mathlib.Core.Path.{◌≡◌, refl}
use mathlib.Core.List.{[], ◌∷◌}
use Rattle.texts.specs.Bytes.{bytes_of, digits, decimal, behind, spaced, newline}
use Rattle.texts.specs.ReadBack.{number_in, digits_after, ends_word, into_first, words_next, words_in}
use Rattle.steps.specs.Reply.{plan, none, undecided, refusal}
use Rattle.searching.specs.Answered.{told}
use Rattle.lines.specs.Text.{first_line, none_line, text_of}
use Rattle.lines.specs.ReadBack.{first_byte, reply_in, numbers_in}

-- a plan with its values
pub example-plan : text_of (told (plan (1 ∷ 2 ∷ []) 1 0)) (1 ∷ 2 ∷ []) ≡ bytes_of "PLAN 1 0\n1 2\n"
unfolding text_of first_line newline spaced behind decimal digits bytes_of
example-plan = refl

-- no plan: with no split the place is the fourth word, and with a split there is none
pub example-none : (text_of (told (none 29 0 1)) [] ≡ bytes_of "NONE 0 1 29\n") × (text_of (told (none 29 1 2)) [] ≡ bytes_of "NONE 1 2\n")
unfolding text_of none_line first_line newline spaced behind decimal digits bytes_of
example-none = (refl, refl)

-- not decided, with the largest number of 64 bits
pub example-undecided : text_of (told (undecided 18446744073709551615 100)) [] ≡ bytes_of "UNDECIDED 18446744073709551615 100\n"
unfolding text_of first_line newline spaced behind decimal digits bytes_of
example-undecided = refl

-- a refusal
pub example-refused : text_of (told (refusal 15 5)) [] ≡ bytes_of "REFUSED 15 5\n"
unfolding text_of first_line newline spaced behind decimal digits bytes_of
example-refused = refl

-- a text read back: its words, its reply and its values
pub example_back : (reply_in (words_in (bytes_of "PLAN 1 0\n1 2\n")) ≡ told (plan [] 1 0)) × (numbers_in (words_in (bytes_of "PLAN 1 0\n1 2\n")) ≡ 1 ∷ 2 ∷ [])
    × (reply_in (words_in (bytes_of "REFUSED 13 5\n")) ≡ told (refusal 13 5)) × (reply_in (words_in (bytes_of "NONE 0 1 29\n")) ≡ told (none 29 0 1))
    × (reply_in (words_in (bytes_of "NONE 1 2\n")) ≡ told (none 29 1 2))
unfolding bytes_of number_in digits_after ends_word into_first words_next words_in first_byte reply_in numbers_in
example_back = (refl, refl, refl, refl, refl)
