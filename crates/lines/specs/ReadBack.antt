-- Reading a printed text back: the reply and the values that its words are. The theorems on what a text tells cite these. Assumes nothing.
use Rattle.std.specs.Prelude.{List, [], map, ℕ, eqb, get_or, drop}
use Rattle.texts.specs.ReadBack.{number_in}
use Rattle.steps.specs.Shrinking.{if_test}
use Rattle.steps.specs.Reply.{ended, refusal}
use Rattle.searching.specs.declared.reply.Reply.{Reply}
use Rattle.searching.specs.Answered.{told}

-- the first byte of a word
unfoldable pub first_byte : List ℕ → ℕ
first_byte word = get_or word 0 0

-- the reply that the words of a text are: by the first letter, P, N or U, and a refusal for any other; N may have a place behind its counts
unfoldable pub reply_in : List (List ℕ) → Reply
reply_in words =
    let letter = first_byte (get_or words 0 []) in
    let first = number_in (get_or words 1 []) in
    let second = number_in (get_or words 2 []) in
    if_test (eqb letter 80) (told (ended 0 0 first second)) λ _.
    if_test (eqb letter 78) (told (ended 1 (number_in (get_or words 3 [])) first second)) λ _.
    if_test (eqb letter 85) (told (ended 2 0 first second)) λ _.
    told (refusal first second)

-- the numbers behind the first three words
unfoldable pub numbers_in : List (List ℕ) → List ℕ
numbers_in words = map number_in (drop 3 words)

-- what a text tells of a reply: all but its rounds, which are not printed
abbrev pub printed_part : Reply → Reply
printed_part r = record { number = r.number; place = r.place; splits = r.splits; dead_ends = r.dead_ends; rounds = 0 }
