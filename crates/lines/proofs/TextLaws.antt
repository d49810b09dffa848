-- Laws of the text of a reply: the line of a word and its numbers part by part, and that every text has room: `text-shown`. Assumes nothing.
use mathlib.Core.Path.{◌≡◌, refl, sym, ap, ◌∙◌}
use mathlib.Core.List.{List, [], ◌∷◌, ◌++◌, append_assoc}
use Prim.Native.Nat.{ℕ, ◌+◌, ◌*◌, ◌≤◌, ◌<◌}
use native.Mathlib.Omega.{arith}
use borrow.Author.Tests.{eq-eqb, ne_eqb}
use mathlib.Core.Bool.{Bool, true, false, cond}
use lib.Dec.{eqb}
use lib.ListN.{length, length-append}
use Rattle.texts.specs.declared.Text.{Text}
use Rattle.texts.specs.Bytes.{bytes_of, behind, spaced, newline}
use Rattle.texts.specs.Grown.{line_of, grown}
use Rattle.texts.proofs.GrownLaws.{line_made}
use Rattle.texts.proofs.SpacedLaws.{behind-first, behind-length, spaced-length}
use Rattle.searching.specs.declared.reply.Reply.{Reply}
use Rattle.lines.specs.Text.{first_line, none_line, text_of}

-- the text of a reply whose number is known
pub text_known : (r : Reply) (values : List ℕ) {number : ℕ} → r.number ≡ number
    → text_of r values ≡ text_of (record { number = number; place = r.place; splits = r.splits; dead_ends = r.dead_ends; rounds = r.rounds }) values
text_known r values known = ap (λ (n : ℕ). text_of (record { number = n; place = r.place; splits = r.splits; dead_ends = r.dead_ends; rounds = r.rounds }) values) known

-- the text of any other reply than PLAN, NONE and UNDECIDED
pub text-refused : (r : Reply) (values : List ℕ) → 2 < r.number → text_of r values ≡ first_line (bytes_of "REFUSED") (r.number ∷ r.place ∷ [])
unfolding text_of
text-refused r values above = simp (ne_eqb r.number 0 (λ e. omega arith), ne_eqb r.number 1 (λ e. omega arith), ne_eqb r.number 2 (λ e. omega arith))

-- a word and two numbers, part by part
pub begun-parts : (word : List ℕ) (a b : ℕ) → (word ++ behind (a ∷ [])) ++ behind (b ∷ []) ≡ word ++ behind (a ∷ b ∷ [])
begun-parts word a b = rw (behind-first a (b ∷ [])) (simp append_assoc)

-- a third number more
pub begun_more : (word : List ℕ) (a b c : ℕ) → (word ++ behind (a ∷ b ∷ [])) ++ behind (c ∷ []) ≡ word ++ behind (a ∷ b ∷ c ∷ [])
begun_more word a b c = rw (behind-first a (b ∷ []), behind-first a (b ∷ c ∷ []), behind-first b (c ∷ [])) (simp append_assoc)

-- and the end of the line
pub line-ended : (word numbers : List ℕ) → (word ++ behind numbers) ++ newline ≡ first_line word numbers
unfolding first_line
line-ended word numbers = append_assoc word (behind numbers) newline

-- the line of a NONE without a place, and with one
pub none-short : (s d place : ℕ) → place ≡ 0 → none_line s d place ≡ first_line (bytes_of "NONE") (s ∷ d ∷ [])
unfolding none_line
none-short s d place e = simp (eq-eqb place 0 e)

pub none_long : (s d place : ℕ) → (place ≡ 0 → ⊥) → none_line s d place ≡ first_line (bytes_of "NONE") (s ∷ d ∷ place ∷ [])
unfolding none_line
none_long s d place ne = simp (ne_eqb place 0 ne)

-- each number is at most 21 bytes with its space
first_line-length : (word numbers : List ℕ) → length (first_line word numbers) ≤ length word + 21 * length numbers + 1
unfolding first_line newline
first_line-length word numbers = omega (arith, length-append word (behind numbers ++ newline), length-append (behind numbers) newline, behind-length numbers)

-- the line of a word of at most 9 bytes and at most three numbers has room
pub first_line_fits : (word numbers : List ℕ) → length word ≤ 9 → length numbers ≤ 3 → length (first_line word numbers) ≤ 2048
first_line_fits word numbers short few = omega (arith, first_line-length word numbers)

-- so has the line of a NONE
pub none_fits : (s d place : ℕ) → length (none_line s d place) ≤ 2048
unfolding none_line bytes_of
none_fits s d place = by_place (eqb place 0)
  where
    by_place : (b : Bool) → length (first_line (bytes_of "NONE") (s ∷ d ∷ cond b [] (place ∷ []))) ≤ 2048
    by_place true = first_line_fits (bytes_of "NONE") (s ∷ d ∷ []) (omega arith) (omega arith)
    by_place false = first_line_fits (bytes_of "NONE") (s ∷ d ∷ place ∷ []) (omega arith) (omega arith)

-- the text of a plan of at most 64 values has room
pub plan_fits : (s d : ℕ) (values : List ℕ) → length values ≤ 64 → length (first_line (bytes_of "PLAN") (s ∷ d ∷ []) ++ (spaced values ++ newline)) ≤ 2048
unfolding bytes_of newline
plan_fits s d values few =
    let line = first_line (bytes_of "PLAN") (s ∷ d ∷ []) in
    let end = spaced values ++ newline in
    omega (arith, first_line-length (bytes_of "PLAN") (s ∷ d ∷ []), length-append line end, length-append (spaced values) newline, spaced-length values)

-- bytes that are a whole text and have room, added to no text, are that text
pub text-shown : {whole bytes : List ℕ} {text : Text} → whole ≡ bytes → length bytes ≤ 2048 → text ≡ grown (line_of []) bytes → text ≡ line_of whole
text-shown {bytes = bytes} told fits made = line_made bytes fits refl made ∙ ap line_of (sym told)
