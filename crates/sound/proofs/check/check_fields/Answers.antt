-- `sound::check::check_fields` meets its contract: a fault is refused at its place, and the fields behind a field with none decide. Assumes nothing.
use Rattle.std.proofs.Common.{◌≡◌, refl, sym, ap, ◌∙◌, List, ℕ, ◌+◌, ◌-◌, ◌≤◌, length, take, drop, length-drop, arith}
use Rattle.std.specs.Prelude.{Ok}
use Rattle.std.proofs.lemmas.Result.{IfOk-at_ok}
use Rattle.rules.specs.declared.field.Head.{Head}
use Rattle.rules.specs.Fault.{number_of}
use Rattle.rules.specs.Reading.{head_of, rule_at, seen_with, fault_after}
use Rattle.lists.proofs.TakeDrop.{rest_part}
use Rattle.contents.proofs.FaultLaws.{numbered}
use Rattle.sound.specs.Checked.{refused_with}
use Rattle.sound.proofs.CheckLaws.{refused_at, kept_at, told_refused, none_given, fields_end, field_refuses, field_ends, field_passes}
use Rattle.sound.proofs.check.check_fields.Goals as goal
use Rattle.sound.proofs.check.check_fields.Goals.{In_ok-seen}

-- the fault that was found is that of the bytes from `at` on
found : {fault : ℕ} (v n seen at : ℕ) (s : List ℕ) → fault ≡ fault_after v n seen (take (length s - at) (drop at s)) → fault ≡ fault_after v n seen (drop at s)
found v n seen at s is = is ∙ ap (fault_after v n seen) (rest_part at s)

-- the head that was read is that of the bytes from `at` on
headed : {head : Head} (at : ℕ) (s : List ℕ) → head ≡ head_of (take (length s - at) (drop at s)) → head ≡ head_of (drop at s)
headed at s is = is ∙ ap head_of (rest_part at s)

pub returns-in_err-seen : goal.returns-in_err-seen
returns-in_err-seen c =
    let refusal = c.in_err-seen.field-0.0 in
    let made = refused_at _ _ _ c.at_place.ensures refusal c.in_err-seen.was in
    told_refused _ refusal c.from_residual.ensures.1 ∙ ap (refused_with (number_of refusal.fault)) made.1
    ∙ sym (field_refuses c.loop-at.invariant c.loop-at-test.true (sym made.0 ∙ found _ _ _ c.loop-at.at c.args.input.now c.fault_after.ensures.told) (numbered refusal.fault))

-- a field that was read told no fault, and gave the marks
given : (c : In_ok-seen) → c.fault_after.result ≡ Ok c.in_ok-seen.seen
given c = kept_at _ _ _ c.at_place.ensures c.in_ok-seen.seen c.in_ok-seen.was

-- it ends within the bytes
ends : (c : In_ok-seen) {head : Head} → head ≡ head_of (drop c.loop-at.at c.args.input.now) → c.loop-at.at + 3 + head.length ≤ length c.args.input.now
ends c read = field_ends c.loop-at.invariant c.loop-at-test.true (found _ _ _ c.loop-at.at c.args.input.now c.fault_after.ensures.told) (none_given _ _ (given c)) read

pub head_at-requires : goal.head_at-requires
head_at-requires c =
    let s = c.args.input.now in
    omega (arith, ends (goal.at.head_at-requires c).In_ok-seen refl, ap length (rest_part c.loop-at.at s), length-drop c.loop-at.at s)

pub overflow_add-at : goal.overflow_add-at
overflow_add-at c = omega (arith, ends (goal.at.overflow_add-at c).In_ok-seen (headed c.loop-at.at c.args.input.now c.head_at.ensures.0))

pub overflow_add-at-in-loop-at : goal.overflow_add-at-in-loop-at
overflow_add-at-in-loop-at c = omega (arith, ends (goal.at.overflow_add-at-in-loop-at c).In_ok-seen (headed c.loop-at.at c.args.input.now c.head_at.ensures.0))

pub loop-at-preserved : goal.loop-at-preserved
loop-at-preserved c =
    let s = c.args.input.now in
    let kept = given (goal.at.loop-at-preserved c).In_ok-seen in
    -- the marks are those of the positions seen with the field
    let more = IfOk-at_ok _ kept c.fault_after.ensures.marked ∙ ap (λ (bytes : List ℕ). seen_with (rule_at bytes) c.loop-at.seen) (rest_part c.loop-at.at s) in
    field_passes c.loop-at.invariant c.loop-at-test.true (found _ _ _ c.loop-at.at s c.fault_after.ensures.told) (none_given _ _ kept)
    (headed c.loop-at.at s c.head_at.ensures.0) more _ (omega arith)

pub returns : goal.returns
returns c = sym (fields_end c.loop-at.invariant c.loop-at-test.false)
