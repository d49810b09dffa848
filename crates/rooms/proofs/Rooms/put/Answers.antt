-- `rooms::Rooms::put` meets its contract. Assumes nothing.
use Rattle.steps.specs.Boxes.{with_room}
use Rattle.rooms.proofs.Rooms.put.Goals as goal

pub returns : goal.returns
unfolding with_room
returns c = c.set.ensures
