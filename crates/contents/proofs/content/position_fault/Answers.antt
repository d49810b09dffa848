-- `contents::content::position_fault` meets its contract. Assumes nothing.
use Rattle.std.proofs.Common.{sym, ◌∙◌}
use Rattle.rules.specs.Fault.{number_of, number_told}
use Rattle.rules.specs.Reading.{position_fault}
use Rattle.contents.proofs.content.position_fault.Goals as goal

pub returns-then-within : goal.returns-then-within
unfolding number_told position_fault
returns-then-within c = simp (sym c.within.ensures ∙ c.if-within.true)

pub returns-else-within : goal.returns-else-within
unfolding number_of number_told position_fault
returns-else-within c = simp (sym c.within.ensures ∙ c.if-within.false)
