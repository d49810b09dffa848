-- `contents::content::equality_fault` meets its contract: the set before the positions. Assumes nothing.
use Rattle.std.proofs.Common.{arith, ap₂, ◌∙◌}
use Rattle.rules.specs.Reading.{rule_of, set_fault, positions_fault, rule_fault}
use Rattle.contents.proofs.FaultLaws.{told_first, none_told}
use Rattle.contents.proofs.content.equality_fault.Goals as goal

pub returns-in_err-set_fault : goal.returns-in_err-set_fault
unfolding rule_of rule_fault
returns-in_err-set_fault c = told_first _ _ _ c.from_residual.ensures.1 (c.in_err-set_fault.ensures ∙ ap₂ set_fault (grind arith) c.set_at.ensures)

pub returns : goal.returns
unfolding rule_of rule_fault
returns c =
    c.positions_fault.ensures ∙ ap₂ positions_fault (grind arith) (grind arith)
    ∙ none_told _ (c.in_ok-set_fault.ensures ∙ ap₂ set_fault (grind arith) c.set_at.ensures)
