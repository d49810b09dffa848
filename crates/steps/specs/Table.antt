-- 01's table of replies: input, buffer length and allowance to the one reply; and input to the most rounds (R-10). Assumes nothing.
use Rattle.std.specs.Prelude.{ℕ, List, ltb, length}
use Rattle.rules.specs.Writing.{fields_of}
use Rattle.rules.specs.Rules.{File}
use Rattle.rules.specs.Reading.{Reading, sound, refused, reading}
use Rattle.steps.specs.Start.{start_of}
use Rattle.steps.specs.Shrinking.{if_test}
use Rattle.steps.specs.Reply.{Reply, with_rounds, refusal}
use Rattle.steps.specs.Rounds.{rounds_of, rounds_most}
use Rattle.steps.specs.Search.{searched, explored}

-- the search of a file, with the rounds of its first box
unfoldable pub planned : File → ℕ → Reply
planned file allowed = with_rounds (rounds_of (fields_of file) (start_of file)) (searched (fields_of file) allowed (start_of file) 0 0)

-- the splits that the search of a file needs: those of the search without an allowance
unfoldable pub needed : File → ℕ
needed file = (explored (fields_of file) (start_of file)).splits

-- a refusal with its number and place, or the search of the file read
unfoldable pub of_reading : Reading → ℕ → Reply
of_reading (refused number place) allowed = refusal number place
of_reading (sound file) allowed = planned file allowed

-- 10, 11, 12, then what was read
unfoldable pub reply_of : List ℕ → ℕ → ℕ → Reply
reply_of input buffer allowed =
    if_test (ltb 32768 (length input)) (refusal 10 0) λ _.
    if_test (ltb buffer 64) (refusal 11 0) λ _.
    if_test (ltb 1000000 allowed) (refusal 12 0) λ _.
    of_reading (reading input) allowed

-- ---- R-10: the most rounds that a reply can have, known before the search

-- those of the first box of the file that was read, and 0 where the bytes are refused
unfoldable pub most_of : Reading → ℕ
most_of (refused number place) = 0
most_of (sound file) = rounds_most (start_of file)

-- 10, then what was read
unfoldable pub most_rounds : List ℕ → ℕ
most_rounds input =
    if_test (ltb 32768 (length input)) 0 λ _.
    most_of (reading input)
