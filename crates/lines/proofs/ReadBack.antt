-- A printed text read back gives the reply and a plan's values: `text_back`, `values_back`; so two different replies never print alike: `texts_apart`. Assumes nothing.
use mathlib.Core.Path.{◌≡◌, refl, sym, ap, ap₂, ◌∙◌}
use mathlib.Core.List.{List, [], ◌∷◌, ◌++◌, map, append_assoc, append-nil}
use Prim.Native.Nat.{ℕ, zero, suc, ◌^◌, ◌≤◌, ◌<◌}
use native.Mathlib.Omega.{arith}
use native.Mathlib.Decide.{ℕ_discrete}
use lib.ListN.{length, get_or}
use Rattle.lists.specs.Lists.{Every}
use Rattle.steps.specs.Reply.{ended, refusal}
use Rattle.searching.specs.declared.reply.Reply.{Reply}
use Rattle.searching.specs.Answered.{told}
use Rattle.texts.specs.Bytes.{bytes_of, decimal, behind, spaced, newline}
use Rattle.texts.specs.ReadBack.{number_in, digits_after, ends_word, words_in}
use Rattle.texts.proofs.ReadBack.{Plain, decimal_back, line_words, spaced_words, numbers_back}
use Rattle.lines.specs.Text.{first_line, text_of}
use Rattle.lines.specs.ReadBack.{first_byte, reply_in, numbers_in}
use Rattle.lines.proofs.TextLaws.{text-refused, none-short, none_long}

-- the words of the line of a word and some numbers, and of what follows it
first_line_words : (word numbers rest : List ℕ) → Plain word → words_in (first_line word numbers ++ rest) ≡ word ∷ (map decimal numbers ++ words_in rest)
unfolding first_line
first_line_words word numbers rest plain =
    ap words_in (append_assoc word (behind numbers ++ newline) rest ∙ ap (λ (zs : List ℕ). word ++ zs) (append_assoc (behind numbers) newline rest))
    ∙ line_words word numbers rest plain

-- replies that a text tells whole, in numbers that 20 digits hold, as every number of 64 bits is: an end of the search, which has a place only at NONE, or a
-- refusal, with no counts
pub data Printable : Reply → Type 0 where
  ends : (number place s d : ℕ) → number ≤ 2 → ((number ≡ 1 → ⊥) → place ≡ 0) → place < 10 ^ 20 → s < 10 ^ 20 → d < 10 ^ 20 → Printable (told (ended number place s d))
  refuses : (number place : ℕ) → 2 < number → number < 10 ^ 20 → place < 10 ^ 20 → Printable (told (refusal number place))

-- a text of a first word, two numbers or more and what is behind them, read as a reply
read_as : (word : List ℕ) (a b : ℕ) (more rest : List ℕ) (made : List (List ℕ) → ℕ → ℕ → Reply) {text : List ℕ} → text ≡ first_line word (a ∷ b ∷ more) ++ rest
    → Plain word → a < 10 ^ 20 → b < 10 ^ 20 → ((x y : List ℕ) (ws : List (List ℕ)) → reply_in (word ∷ x ∷ y ∷ ws) ≡ made ws (number_in x) (number_in y))
    → reply_in (words_in text) ≡ made (map decimal more ++ words_in rest) a b
read_as word a b more rest made parts plain la lb reads =
    ap (λ (text : List ℕ). reply_in (words_in text)) parts ∙ ap reply_in (first_line_words word (a ∷ b ∷ more) rest plain)
    ∙ reads (decimal a) (decimal b) (map decimal more ++ words_in rest) ∙ ap₂ (made (map decimal more ++ words_in rest)) (decimal_back a la) (decimal_back b lb)

-- the text of a NONE, without a place and with one
none_back : (xs : List ℕ) (place s d : ℕ) → place < 10 ^ 20 → s < 10 ^ 20 → d < 10 ^ 20 → reply_in (words_in (text_of (told (ended 1 place s d)) xs)) ≡ told (ended 1 place s d)
unfolding text_of bytes_of ends_word reply_in first_byte number_in digits_after words_in
none_back xs place s d lp ls ld = by_place (ℕ_discrete place 0)
  where
    made : List (List ℕ) → ℕ → ℕ → Reply
    made ws a b = told (ended 1 (number_in (get_or ws 0 [])) a b)

    by_place : Dec (place ≡ 0) → reply_in (words_in (text_of (told (ended 1 place s d)) xs)) ≡ told (ended 1 place s d)
    by_place (yes e) =
        read_as (bytes_of "NONE") s d [] [] made (none-short s d place e ∙ sym (append-nil _)) (refl, (refl, (refl, (refl, tt)))) ls ld (λ x y ws. refl)
        ∙ ap (λ (p : ℕ). told (ended 1 p s d)) (sym e)
    by_place (no ne) =
        read_as (bytes_of "NONE") s d (place ∷ []) [] made (none_long s d place ne ∙ sym (append-nil _)) (refl, (refl, (refl, (refl, tt)))) ls ld (λ x y ws. refl)
        ∙ ap (λ (p : ℕ). told (ended 1 p s d)) (decimal_back place lp)

-- the text of a reply read back gives that reply
pub text_back : {r : Reply} (xs : List ℕ) → Printable r → reply_in (words_in (text_of r xs)) ≡ r
unfolding text_of bytes_of ends_word reply_in first_byte
text_back xs (ends zero place s d low only lp ls ld) =
    rw (only (λ e. omega arith))
    (read_as (bytes_of "PLAN") s d [] (spaced xs ++ newline) (λ ws a b. told (ended 0 0 a b)) refl (refl, (refl, (refl, (refl, tt)))) ls ld (λ x y ws. refl))
text_back xs (ends (suc zero) place s d low only lp ls ld) = none_back xs place s d lp ls ld
text_back xs (ends (suc (suc zero)) place s d low only lp ls ld) =
    rw (only (λ e. omega arith))
    (read_as (bytes_of "UNDECIDED") s d [] [] (λ ws a b. told (ended 2 0 a b)) (sym (append-nil _)) (refl, (refl, (refl, (refl, (refl, (refl, (refl, (refl, (refl, tt))))))))) ls ld (λ x y ws. refl))
text_back xs (ends (suc (suc (suc n))) place s d low only lp ls ld) = absurd (omega arith)
text_back xs (refuses number place above ln lp) =
    read_as (bytes_of "REFUSED") number place [] [] (λ ws a b. told (refusal a b)) (text-refused (told (refusal number place)) xs above ∙ sym (append-nil _))
    (refl, (refl, (refl, (refl, (refl, (refl, (refl, tt))))))) ln lp (λ x y ws. refl)

-- values as a plan prints them: at least one, each of at most 20 digits
abbrev pub Few : List ℕ → Type 0
Few xs = (1 ≤ length xs) × Every (λ x. x < 10 ^ 20) xs

-- the text of a plan read back gives its values
pub values_back : (r : Reply) (xs : List ℕ) → r.number ≡ 0 → Few xs → numbers_in (words_in (text_of r xs)) ≡ xs
unfolding text_of bytes_of ends_word numbers_in
values_back r [] e few = absurd (omega arith)
values_back r (x ∷ xs) e few =
    rw e (ap numbers_in (first_line_words (bytes_of "PLAN") (r.splits ∷ r.dead_ends ∷ []) (spaced (x ∷ xs) ++ newline) (refl, (refl, (refl, (refl, tt)))))
    ∙ ap (map number_in) (spaced_words x xs) ∙ numbers_back (x ∷ xs) few.1)

-- two different replies never print alike
pub texts_apart : {r s : Reply} (xs ys : List ℕ) → Printable r → Printable s → text_of r xs ≡ text_of s ys → r ≡ s
texts_apart xs ys p q e = sym (text_back xs p) ∙ ap (λ (text : List ℕ). reply_in (words_in text)) e ∙ text_back ys q

-- nor do two plans with different values
pub values_apart : (r s : Reply) (xs ys : List ℕ) → r.number ≡ 0 → s.number ≡ 0 → Few xs → Few ys → text_of r xs ≡ text_of s ys → xs ≡ ys
values_apart r s xs ys d e p q same = sym (values_back r xs d p) ∙ ap (λ (text : List ℕ). numbers_in (words_in text)) same ∙ values_back s ys e q
