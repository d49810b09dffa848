-- `rooms::Rooms::at` meets its contract: the room stands in the array. Assumes nothing.
use Rattle.std.proofs.Common.{◌-◌, arith}
use Rattle.steps.specs.Boxes.{room_at}
use Rattle.rooms.proofs.HeldLaws.{seen_room}
use Rattle.rooms.proofs.Rooms.at.Goals as goal

pub returns : goal.returns
unfolding room_at
returns c =
    seen_room (record { few = c.self.invariant.0; array = c.self.invariant.1; view = c.self.view_is }) (c.args.position - 1) c.index-self-position.result (omega arith)
