-- `sets::marks::Marks::has` meets its contract: the shift makes the set of the one position, and the test is whether it lies inside. Assumes nothing.
use mathlib.Core.Path.{ap₂}
use Rattle.sets.specs.Sets.{common, inside}
use Rattle.sets.specs.Marks.{is_marked}
use Rattle.sets.proofs.Shifts.{one_shifted}
use Rattle.sets.proofs.MarkLaws.{marked-kept}
use Rattle.sets.proofs.marks.Marks.has.Goals as goal

pub returns : goal.returns
unfolding is_marked inside common
returns c = marked-kept (ap₂ inside (one_shifted 64 c.args.p c.requires) c.self.view_is)
