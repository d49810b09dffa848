-- A reply in words: where a refusal stands and what is wrong, and which field cannot be met (R-3). The contracts of `src/lib.rt` cite these. Assumes nothing.
use Rattle.std.specs.Prelude.{◌≡◌, cond, List, [], ◌∷◌, ◌++◌, ℕ, ◌-◌, ltb, eqb, get_or}
use Rattle.texts.specs.declared.Text.{Text}
use Rattle.texts.specs.Bytes.{bytes_of, decimal, newline}
use Rattle.texts.specs.Grown.{line_of}

-- what is wrong, for the refusals 10 to 36 in turn: those of 01's table, and of document 02 26 and 27 (R-6) and 36 (R-12); no reply has 21 to 25 or 28 to 35
unfoldable pub faults : List (List ℕ)
faults =
    bytes_of "the input is longer than 32768 bytes" ∷
    bytes_of "the answer buffer is shorter than 64 bytes" ∷
    bytes_of "the allowance is above 1000000 splits" ∷
    bytes_of "the input ends within a tag and length, or before the bytes that a length announces" ∷
    bytes_of "the input is empty, or its first tag is not 1 (header)" ∷
    bytes_of "a second header" ∷
    bytes_of "a tag that is not known" ∷
    bytes_of "a length that is wrong for the tag" ∷
    bytes_of "a number of channels that is not 1 to 64, or a number of relays that is not 1 to 32" ∷
    bytes_of "a position that is 0 or above the number of channels" ∷
    bytes_of "a set with a value above the number of relays" ∷
    [] ∷
    [] ∷
    [] ∷
    [] ∷
    [] ∷
    bytes_of "a starting set that is empty" ∷
    bytes_of "a second starting set for its position" ∷
    [] ∷
    [] ∷
    [] ∷
    [] ∷
    [] ∷
    [] ∷
    [] ∷
    [] ∷
    bytes_of "a position that is named twice" ∷
    []

-- what is wrong, by its number; nothing for any other
unfoldable pub fault_of : ℕ → List ℕ
fault_of number = cond (ltb number 10) [] (get_or faults (number - 10) [])

-- a place with words around it
abbrev pub around : List ℕ → ℕ → List ℕ → List ℕ
around front place back = front ++ (decimal place ++ back)

-- where it stands: the offset of the field's tag byte; nothing where the place is no field's, as at 10 to 12 and 14
unfoldable pub place_of : ℕ → ℕ → List ℕ
place_of number place =
    cond (ltb number 13) []
    (cond (eqb number 14) []
    (around (bytes_of "field at byte ") place (bytes_of ": ")))

-- a refusal in words, as a line
unfoldable pub words_of : ℕ → ℕ → List ℕ
words_of number place = place_of number place ++ (fault_of number ++ newline)

-- a NONE in words, as a line, where it has a place: the field there cannot be met; nothing where it has none
unfoldable pub unmet_of : ℕ → List ℕ
unmet_of place = cond (eqb place 0) [] (around (bytes_of "the field at byte ") place (bytes_of " cannot be met by what the rules leave open\n"))

-- the words for a reply, by its number and place: those of a NONE, those of a refusal, which is 10 or more, and nothing for any other
unfoldable pub reason_of : ℕ → ℕ → List ℕ
reason_of number place = cond (eqb number 1) (unmet_of place) (cond (ltb number 10) [] (words_of number place))

-- the text is the words for the reply
abbrev pub Reasoned : ℕ → ℕ → Text → Type 0
Reasoned number place text = text ≡ line_of (reason_of number place)
