-- `sets::Room::common` meets its contract: the operation on masks is the definition. Assumes nothing.
use mathlib.Core.Path.{ap₂}
use Rattle.sets.specs.Sets.{common}
use Rattle.sets.proofs.Kept.{common-kept}
use Rattle.sets.proofs.Room.common.Goals as goal

pub returns : goal.returns
unfolding common
returns c = common-kept (ap₂ common c.self.view_is c.other.view_is)
