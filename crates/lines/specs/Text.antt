-- The text that the program prints for a reply. The contracts of `src/` cite these. Assumes nothing.
use Rattle.std.specs.Prelude.{List, [], ◌∷◌, ◌++◌, ℕ, cond, eqb}
use Rattle.steps.specs.Shrinking.{if_test}
use Rattle.searching.specs.declared.reply.Reply.{Reply}
use Rattle.texts.specs.Bytes.{bytes_of, behind, spaced, newline}

-- the line of a word and some numbers
unfoldable pub first_line : List ℕ → List ℕ → List ℕ
first_line word numbers = word ++ (behind numbers ++ newline)

-- the line of a word and the counts of a reply
abbrev pub count_line : List ℕ → Reply → List ℕ
count_line word r = first_line word (r.splits ∷ r.dead_ends ∷ [])

-- the line of a NONE: its counts, and behind them its place where it has one (R-3)
unfoldable pub none_line : ℕ → ℕ → ℕ → List ℕ
none_line splits dead_ends place = first_line (bytes_of "NONE") (splits ∷ dead_ends ∷ cond (eqb place 0) [] (place ∷ []))

-- what is printed for a reply, by its number, where the values are a plan's
unfoldable pub text_of : Reply → List ℕ → List ℕ
text_of r values =
    if_test (eqb r.number 0) (count_line (bytes_of "PLAN") r ++ (spaced values ++ newline)) λ _.
    if_test (eqb r.number 1) (none_line r.splits r.dead_ends r.place) λ _.
    if_test (eqb r.number 2) (count_line (bytes_of "UNDECIDED") r) λ _.
    first_line (bytes_of "REFUSED") (r.number ∷ r.place ∷ [])
