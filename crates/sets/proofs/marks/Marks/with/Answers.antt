-- `sets::marks::Marks::with` meets its contract: the shift makes the set of the one position, which is united with the others. Assumes nothing.
use mathlib.Core.Path.{ap₂}
use Rattle.sets.specs.Sets.{union}
use Rattle.sets.specs.Marks.{with_mark}
use Rattle.sets.proofs.Shifts.{one_shifted}
use Rattle.sets.proofs.MarkLaws.{marks-kept}
use Rattle.sets.proofs.marks.Marks.with.Goals as goal

pub returns : goal.returns
unfolding with_mark union
returns c = marks-kept (ap₂ union c.self.view_is (one_shifted 64 c.args.p c.requires))
