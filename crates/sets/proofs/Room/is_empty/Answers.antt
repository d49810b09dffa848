-- `sets::Room::is_empty` meets its contract: the test is the definition. Assumes nothing.
use mathlib.Core.Path.{ap}
use Rattle.sets.specs.Sets.{is_empty}
use Rattle.sets.proofs.Kept.{empty-kept}
use Rattle.sets.proofs.Room.is_empty.Goals as goal

pub returns : goal.returns
unfolding is_empty
returns c = empty-kept (ap is_empty c.self.view_is)
