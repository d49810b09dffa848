-- `sets::Room::inside` meets its contract: the test is the definition. Assumes nothing.
use mathlib.Core.Path.{ap₂}
use Rattle.sets.specs.Sets.{common, inside}
use Rattle.sets.proofs.Kept.{inside-kept}
use Rattle.sets.proofs.Room.inside.Goals as goal

pub returns : goal.returns
unfolding common inside
returns c = inside-kept (ap₂ inside c.self.view_is c.other.view_is)
