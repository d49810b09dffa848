-- `sound::check::check` meets its contract: the header, then the fields. Assumes nothing.
use Rattle.std.proofs.Common.{◌≡◌, sym, ap, ap₂, ◌∙◌, length, drop, arith}
use Rattle.std.specs.Prelude.{Ok}
use Rattle.std.proofs.lemmas.Result.{IfOk-at_ok}
use Rattle.rules.specs.Fault.{number_of}
use Rattle.rules.specs.Reading.{read_fields}
use Rattle.contents.proofs.FaultLaws.{numbered}
use Rattle.sound.specs.Checked.{LimitsIn, refused_with, checked_of}
use Rattle.sound.proofs.CheckLaws.{refused_at, kept_at, told_refused, none_given, header_refuses, header_passes, header_long}
use Rattle.sound.proofs.check.check.Goals as goal
use Rattle.sound.proofs.check.check.Goals.{In_ok-limits}

pub returns-in_err-limits : goal.returns-in_err-limits
returns-in_err-limits c =
    let refusal = c.in_err-limits.field-0.0 in
    let made = refused_at _ _ _ c.at_place.ensures refusal c.in_err-limits.was in
    told_refused _ refusal c.from_residual.ensures.1 ∙ ap (refused_with (number_of refusal.fault)) made.1
    ∙ sym (header_refuses c.args.input.now (sym made.0 ∙ c.header_fault.ensures.told) (numbered refusal.fault))

-- a header that was read told no fault, and gave the limits
given : (c : In_ok-limits) → c.header_fault.result ≡ Ok c.in_ok-limits.limits
given c = kept_at _ _ _ c.at_place.ensures c.in_ok-limits.limits c.in_ok-limits.was

-- these stand in it
read : (c : In_ok-limits) → LimitsIn c.args.input.now c.in_ok-limits.limits
read c = IfOk-at_ok _ (given c) c.header_fault.ensures.read

pub check_fields-requires : goal.check_fields-requires
check_fields-requires c =
    let here = (goal.at.check_fields-requires c).In_ok-limits in
    omega (arith, header_long c.args.input.now c.header_fault.ensures.told (none_given _ _ (given here)), read here)

pub returns : goal.returns
returns c =
    let s = c.args.input.now in
    let here = (goal.at.returns c).In_ok-limits in
    c.check_fields.ensures ∙ ap₂ (λ v n. checked_of (read_fields (length s) v n 0 5 (drop 5 s))) (read here).0 (read here).1
    ∙ sym (header_passes s c.header_fault.ensures.told (none_given _ _ (given here)))
