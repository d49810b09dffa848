-- `sound::check::field_fault` meets its contract: a head that is cut, then the tag, then what stands behind it. Assumes nothing.
use Rattle.std.proofs.Common.{◌≡◌, sym, ap, ◌∙◌, List, ℕ, ◌≤◌, length, arith}
use borrow.Author.Tests.{lt-ltb, le-ltb}
use Rattle.rules.specs.declared.field.Head.{Head}
use Rattle.rules.specs.declared.field.Tag.{Tag}
use Rattle.rules.specs.Fault.{number_of, number_told}
use Rattle.rules.specs.Reading.{or_else, tag_of, head_of, content_of, tag_fault, body_fault, field_fault}
use Rattle.lists.proofs.TakeDrop.{rest_part}
use Rattle.contents.proofs.FaultLaws.{told_first, none_told}
use Rattle.sound.proofs.check.field_fault.Goals as goal

-- a head that is whole: the kind, then what stands behind the head
headed : (v n : ℕ) (bytes : List ℕ) {head : Head} {kind : Tag} → 3 ≤ length bytes → head ≡ head_of bytes → kind ≡ tag_of head.tag
    → field_fault v n bytes ≡ or_else (tag_fault kind) (body_fault v n kind head.length (content_of bytes))
unfolding field_fault
headed v n bytes there read is = simp (le-ltb (length bytes) 3 there, is, read)

pub returns-then-bytes-lt3 : goal.returns-then-bytes-lt3
unfolding number_of number_told field_fault
returns-then-bytes-lt3 c = simp (lt-ltb (length c.args.bytes.now) 3 c.if-bytes-lt3.true)

pub returns-in_err-tag_fault : goal.returns-in_err-tag_fault
returns-in_err-tag_fault c =
    told_first _ _ _ c.from_residual.ensures.1 c.in_err-tag_fault.ensures
    ∙ sym (headed _ _ c.args.bytes.now (omega arith) c.head_at-head.ensures.0 c.from-kind.ensures)

pub returns : goal.returns
unfolding content_of
returns c =
    let a = c.args in
    c.body_fault.ensures ∙ ap (body_fault a.limits.positions a.limits.values c.from-kind.result c.head_at-head.result.length) (rest_part 3 a.bytes.now)
    ∙ none_told _ c.in_ok-tag_fault.ensures ∙ sym (headed _ _ a.bytes.now (omega arith) c.head_at-head.ensures.0 c.from-kind.ensures)
