-- `rooms::Rooms::set` meets its contract: the room stands in the array. Assumes nothing.
use Rattle.rooms.proofs.HeldLaws.{seen-set}
use Rattle.rooms.proofs.Rooms.set.Goals as goal

pub returns : goal.returns
returns c = seen-set (record { few = c.self.invariant.0; array = c.self.invariant.1; view = c.self.view_is }) c.args.i c.args.room c.requires
