-- `sound::check::header_fault` meets its contract: test by test. Assumes nothing.
use Rattle.std.proofs.Common.{◌≡◌, sym, ◌∙◌, not, List, ℕ, ◌≤◌, eqb, length, arith}
use borrow.Author.Tests.{ne_eqb, lt-ltb, le-ltb}
use Rattle.rules.specs.declared.field.Head.{Head}
use Rattle.rules.specs.Fault.{number_of, number_told}
use Rattle.rules.specs.Reading.{fault_if, head_of, header_body_fault, header_fault}
use Rattle.sound.proofs.HeaderLaws.{tag_is-header, tag_other}
use Rattle.sound.proofs.check.header_fault.Goals as goal

-- a head that is whole: the tag, then what stands behind it
tagged : (bytes : List ℕ) {head : Head} → 3 ≤ length bytes → head ≡ head_of bytes → header_fault bytes ≡ fault_if (not (eqb head.tag 1)) 14 (λ _. header_body_fault head.length bytes)
unfolding header_fault
tagged bytes there read = simp (ne_eqb (length bytes) 0 (λ z. omega arith), le-ltb (length bytes) 3 there, read)

pub returns-then-is_empty-clause-told : goal.returns-then-is_empty-clause-told
unfolding number_of number_told header_fault
returns-then-is_empty-clause-told c = simp (sym c.if-is_empty.ensures)

pub returns-then-input-lt3-clause-told : goal.returns-then-input-lt3-clause-told
unfolding number_of number_told header_fault
returns-then-input-lt3-clause-told c = simp (sym c.if-is_empty.ensures, lt-ltb (length c.args.input.now) 3 c.if-input-lt3.true)

pub returns-in_default-clause-told : goal.returns-in_default-clause-told
unfolding number_of number_told
returns-in_default-clause-told c = sym (tagged c.args.input.now (omega arith) c.head_at-head.ensures.0 ∙ simp (tag_other c.head_at-head.result.tag c.from.ensures c.in_default.not-Header))

pub returns-clause-told : goal.returns-clause-told
returns-clause-told c =
    c.header_body_fault.ensures.told
    ∙ sym (tagged c.args.input.now (omega arith) c.head_at-head.ensures.0 ∙ simp (tag_is-header c.head_at-head.result.tag c.from.ensures c.in-Header.is))
