-- `contents::content::atom_fault` meets its contract: the position before the set. Assumes nothing.
use Rattle.std.proofs.Common.{arith, ap₂, ◌∙◌}
use Rattle.rules.specs.Reading.{position_fault, set_fault, atom_fault}
use Rattle.contents.proofs.FaultLaws.{told_first, none_told}
use Rattle.contents.proofs.content.atom_fault.Goals as goal

pub returns-in_err-position_fault : goal.returns-in_err-position_fault
unfolding atom_fault
returns-in_err-position_fault c = told_first _ _ _ c.from_residual.ensures.1 (c.in_err-position_fault.ensures ∙ ap₂ position_fault (grind arith) (grind arith))

pub returns : goal.returns
unfolding atom_fault
returns c =
    c.set_fault.ensures ∙ ap₂ set_fault (grind arith) (grind arith)
    ∙ none_told _ (c.in_ok-position_fault.ensures ∙ ap₂ position_fault (grind arith) (grind arith))
