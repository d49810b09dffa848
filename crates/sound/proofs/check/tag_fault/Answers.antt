-- `sound::check::tag_fault` meets its contract: kind by kind. Assumes nothing.
use Rattle.std.proofs.Common.{⊎_elim}
use Rattle.rules.specs.Fault.{number_of, number_told}
use Rattle.rules.specs.Reading.{tag_fault}
use Rattle.sound.proofs.check.tag_fault.Goals as goal

pub returns-in-Header : goal.returns-in-Header
unfolding number_of number_told tag_fault
returns-in-Header c = rw c.in-Header.is

pub returns-in-Clause : goal.returns-in-Clause
unfolding number_told tag_fault
returns-in-Clause c = ⊎_elim (λ e. rw e) (⊎_elim (λ e. rw e) (⊎_elim (λ e. rw e) (λ e. rw e))) c.in-Clause.is

pub returns-in-Unknown : goal.returns-in-Unknown
unfolding number_of number_told tag_fault
returns-in-Unknown c = rw c.in-Unknown.is
