-- `sound::check::fault_after` meets its contract: the field's own fault, and then that of a second starting set. Assumes nothing.
use Rattle.std.proofs.Common.{sym, ◌∙◌}
use Rattle.rules.specs.Fault.{number_told}
use Rattle.rules.specs.Reading.{fault_after}
use Rattle.contents.proofs.FaultLaws.{told_first, none_told}
use Rattle.sound.proofs.StartedLaws.{start-there}
use Rattle.sound.proofs.check.fault_after.Goals as goal

pub returns-in_err-field_fault-clause-told : goal.returns-in_err-field_fault-clause-told
unfolding fault_after
returns-in_err-field_fault-clause-told c = told_first _ _ _ c.from_residual.ensures.1 c.in_err-field_fault.ensures

pub seen_with-requires : goal.seen_with-requires
unfolding number_told
seen_with-requires c = start-there _ _ _ c.requires (sym c.in_ok-field_fault.ensures)

pub returns-clause-told : goal.returns-clause-told
unfolding fault_after
returns-clause-told c = c.seen_with.ensures.told ∙ none_told _ c.in_ok-field_fault.ensures
