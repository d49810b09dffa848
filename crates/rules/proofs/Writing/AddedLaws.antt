-- The bytes of a file with rules added behind it are those of the file and those of the rules, `added-written`. And the other way round: bytes that are a file, with any bytes behind
-- them, are the file with rules added, where they are not refused, `read-added`. Assumes nothing.
use mathlib.Core.Path.{◌≡◌, refl, sym, ap, ap₂, ◌∙◌}
use mathlib.Core.List.{List, [], ◌∷◌, ◌++◌, append_assoc}
use Prim.Native.Nat.{ℕ, ◌<◌}
use native.Mathlib.Omega.{arith}
use lib.ListN.{length, get_or, drop, length-append}
use lib.Seq.{drop-append_seam}
use Rattle.lists.specs.Lists.{Every}
use Rattle.lists.proofs.ListLaws.{every-over-append}
use Rattle.rules.specs.Rules.{Rule, File}
use Rattle.rules.specs.Reading.{rule_at, size_of, sound, reading}
use Rattle.rules.specs.Writing.{two_bytes, framed, written_rule, written_rules, written}
use Rattle.rules.specs.Added.{added}
use Rattle.rules.proofs.Writing.WrittenLaws.{written_long, rule_of-written, size_of-written}
use Rattle.rules.proofs.Writing.RoundTrip.{written_of-read}

-- ---- from rules to bytes

-- rules one behind the other are written one behind the other
written-append : (front later : List Rule) → written_rules (front ++ later) ≡ written_rules front ++ written_rules later
unfolding written_rules
written-append [] later = refl
written-append (r ∷ rs) later = ap (λ (bytes : List ℕ). written_rule r ++ bytes) (written-append rs later) ∙ sym (append_assoc (written_rule r) (written_rules rs) (written_rules later))

-- a file with rules added is written as the file, and the rules behind it
pub added-written : (file : File) (more : List Rule) → written (added file more) ≡ written file ++ written_rules more
unfolding added written
added-written file more =
    let header : List ℕ = framed 1 (file.v ∷ file.n ∷ []) in
    ap (λ (bytes : List ℕ). header ++ bytes) (written-append file.rules more) ∙ sym (append_assoc header (written_rules file.rules) (written_rules more))

-- ---- from bytes to rules

-- the bytes behind the field that they start with
abbrev behind_field : List ℕ → List ℕ
behind_field bytes = drop (size_of bytes) bytes

-- behind the field of a rule that was written stands what follows
behind-written : (r : Rule) (rest : List ℕ) → behind_field (written_rule r ++ rest) ≡ rest
behind-written r rest = rw (size_of-written r rest, drop-append_seam)

-- Where the bytes of some rules, with more bytes behind them, are the bytes of others, these begin with the same rules, and the bytes behind are the rest of them.
front-rules : (rs ss : List Rule) (tail : List ℕ) → written_rules rs ++ tail ≡ written_rules ss → (more : List Rule) × (ss ≡ rs ++ more) × (tail ≡ written_rules more)
unfolding written_rules
front-rules [] ss tail e = (ss, refl, e)
front-rules (r ∷ rs) [] tail e =
    absurd (omega (arith, ap length e, length-append (written_rule r ++ written_rules rs) tail, length-append (written_rule r) (written_rules rs), written_long r))
front-rules (r ∷ rs) (s ∷ ss) tail e =
    let joined = sym (append_assoc (written_rule r) (written_rules rs) tail) ∙ e in
    let rule : s ≡ r = sym (rule_of-written s (written_rules ss)) ∙ ap rule_at (sym joined) ∙ rule_of-written r (written_rules rs ++ tail) in
    let rest = front-rules rs ss tail (sym (behind-written r (written_rules rs ++ tail)) ∙ ap behind_field joined ∙ behind-written s (written_rules ss)) in
    (rest.0, ap₂ ◌∷◌ rule rest.1, rest.2)

-- so it is with files, whether they are within the limits or not
front_file : (file later : File) (tail : List ℕ) → written file ++ tail ≡ written later → (more : List Rule) × (later ≡ added file more) × (tail ≡ written_rules more)
unfolding added written framed two_bytes
front_file file later tail e =
    let positions : later.v ≡ file.v = ap (λ (bytes : List ℕ). get_or bytes 3 0) (sym e) in
    let values : later.n ≡ file.n = ap (λ (bytes : List ℕ). get_or bytes 4 0) (sym e) in
    let rest = front-rules file.rules later.rules tail (ap (drop 5) e) in
    (rest.0, λ i. record { v = positions i; n = values i; rules = rest.1 i }, rest.2)

-- Bytes that are a file, and any bytes behind them: if neither is refused, those behind are the fields of some rules, and what is read of all is the file with those rules added.
pub read-added : (s tail : List ℕ) → Every (λ b. b < 256) (s ++ tail) → (file later : File) → reading s ≡ sound file → reading (s ++ tail) ≡ sound later
    → (more : List Rule) × (later ≡ added file more) × (tail ≡ written_rules more)
read-added s tail small file later read read-later =
    let of-file = (written_of-read s ((every-over-append (λ b. b < 256) s tail).0 small).0 file read).0 in
    let of-later = (written_of-read (s ++ tail) small later read-later).0 in
    front_file file later tail (ap (λ (bytes : List ℕ). bytes ++ tail) (sym of-file) ∙ of-later)
