-- `contents::content::empty_fault` meets its contract. Assumes nothing.
use Rattle.std.proofs.Common.{sym, ◌∙◌}
use Rattle.rules.specs.Fault.{number_of, number_told}
use Rattle.rules.specs.Reading.{empty_fault}
use Rattle.contents.proofs.content.empty_fault.Goals as goal

pub returns-then-is_empty : goal.returns-then-is_empty
unfolding number_of number_told empty_fault
returns-then-is_empty c = simp (sym c.is_empty.ensures.result ∙ c.if-is_empty.true)

pub returns-else-is_empty : goal.returns-else-is_empty
unfolding number_told empty_fault
returns-else-is_empty c = simp (sym c.is_empty.ensures.result ∙ c.if-is_empty.false)
