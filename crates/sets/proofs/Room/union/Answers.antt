-- `sets::Room::union` meets its contract: the operation on masks is the definition. Assumes nothing.
use mathlib.Core.Path.{ap₂}
use Rattle.sets.specs.Sets.{union}
use Rattle.sets.proofs.Kept.{union-kept}
use Rattle.sets.proofs.Room.union.Goals as goal

pub returns : goal.returns
unfolding union
returns c = union-kept (ap₂ union c.self.view_is c.other.view_is)
