-- `contents::naming::at_most_fault` meets its contract: the set before the positions, and last a position named twice. Assumes nothing.
use Rattle.std.proofs.Common.{arith, sym, ap₂, ◌∙◌}
use Rattle.std.proofs.lemmas.Grind.{common_steps}
use Rattle.rules.specs.Fault.{number_told}
use Rattle.rules.specs.Reading.{rule_of, set_fault, positions_fault, rule_fault}
use Rattle.contents.proofs.FaultLaws.{told_first, none_told}
use Rattle.contents.proofs.NamingLaws.{positions-there}
use Rattle.contents.proofs.naming.at_most_fault.Goals as goal

pub returns-in_err-set_fault : goal.returns-in_err-set_fault
unfolding rule_of rule_fault
returns-in_err-set_fault c = told_first _ _ _ c.from_residual.ensures.1 (c.in_err-set_fault.ensures ∙ ap₂ set_fault (grind arith) c.set_at.ensures)

pub returns-in_err-positions_fault : goal.returns-in_err-positions_fault
unfolding rule_of rule_fault
returns-in_err-positions_fault c =
    told_first _ _ _ c.from_residual-in_err-positions_fault.ensures.1
    (c.in_err-positions_fault.ensures ∙ ap₂ positions_fault (grind arith) (grind (arith, common_steps)))
    ∙ none_told _ (c.in_ok-set_fault.ensures ∙ ap₂ set_fault (grind arith) c.set_at.ensures)

pub twice_fault-requires : goal.twice_fault-requires
unfolding number_told
twice_fault-requires c =
    positions-there c.args.v _ c.requires.1 (sym (c.in_ok-positions_fault.ensures ∙ ap₂ positions_fault (grind arith) (grind (arith, common_steps))))

pub returns : goal.returns
unfolding rule_of rule_fault
returns c =
    c.twice_fault.ensures
    ∙ none_told _ (c.in_ok-positions_fault.ensures ∙ ap₂ positions_fault (grind arith) (grind (arith, common_steps)))
    ∙ none_told _ (c.in_ok-set_fault.ensures ∙ ap₂ set_fault (grind arith) c.set_at.ensures)
