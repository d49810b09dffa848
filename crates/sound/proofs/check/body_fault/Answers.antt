-- `sound::check::body_fault` meets its contract: test by test. Assumes nothing.
use Rattle.std.proofs.Common.{◌≡◌, sym, ap, ap₂, ◌∙◌, true, List, ℕ, ◌+◌, ◌-◌, ◌≤◌, length, take, arith}
use Rattle.std.specs.List.{slice_range}
use borrow.Author.Tests.{lt-ltb, le-ltb}
use Rattle.lists.proofs.TestLaws.{true_test}
use Rattle.rules.specs.declared.field.Tag.{Tag}
use Rattle.rules.specs.Fault.{number_of, number_told}
use Rattle.rules.specs.Reading.{length_fits, rule_of, rule_fault, body_fault}
use Rattle.rules.proofs.Reading.TakenLaws.{rule_taken}
use Rattle.sound.proofs.check.body_fault.Goals as goal

-- the bytes are there: the content that is cut from them decides
content_there : (v n : ℕ) (kind : Tag) (len : ℕ) (bytes content : List ℕ) → length_fits kind len ≡ true → len ≤ length bytes → content ≡ slice_range bytes 0 len → length content + 0 ≡ len
    → rule_fault v n (rule_of kind (length content) content) ≡ body_fault v n kind len bytes
unfolding body_fault
content_there v n kind len bytes content fits there cut long =
    let same : length content ≡ len = omega arith in
    let whole : len - 0 ≡ len = omega arith in
    simp (fits, le-ltb (length bytes) len there)
    (ap (rule_fault v n) (ap₂ (rule_of kind) same (cut ∙ ap (λ (k : ℕ). take k bytes) whole) ∙ rule_taken kind len bytes (true_test _ fits) there))

pub returns-then-not-length_fits : goal.returns-then-not-length_fits
unfolding number_of number_told body_fault
returns-then-not-length_fits c = simp (sym c.length_fits.ensures ∙ c.if-not-length_fits.true)

pub returns-in-Some : goal.returns-in-Some
returns-in-Some c =
    let got = c.in-Some.ensures.lookup.0 in
    c.content_fault.ensures ∙ content_there _ _ _ _ c.args.bytes.now c.in-Some.content.now (sym c.if-not-length_fits.ensures) got.1 got.2 got.3

pub returns-in-None : goal.returns-in-None
unfolding number_of number_told body_fault
returns-in-None c = simp (sym c.if-not-length_fits.ensures, lt-ltb (length c.args.bytes.now) c.args.len (omega (arith, c.in-None.ensures.lookup.0)))
