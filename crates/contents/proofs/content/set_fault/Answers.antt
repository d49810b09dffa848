-- `contents::content::set_fault` meets its contract. Assumes nothing.
use Rattle.std.proofs.Common.{sym, ◌∙◌}
use Rattle.rules.specs.Fault.{number_of, number_told}
use Rattle.rules.specs.Reading.{set_fault}
use Rattle.contents.proofs.content.set_fault.Goals as goal

pub returns-then-inside : goal.returns-then-inside
unfolding number_told set_fault
returns-then-inside c = simp (sym c.full.ensures.result, sym c.inside.ensures.result ∙ c.if-inside.true)

pub returns-else-inside : goal.returns-else-inside
unfolding number_of number_told set_fault
returns-else-inside c = simp (sym c.full.ensures.result, sym c.inside.ensures.result ∙ c.if-inside.false)
