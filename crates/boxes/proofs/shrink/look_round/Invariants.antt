-- The loop of `boxes::shrink::look_round`: the fields that are left, over the rooms as they are, make the whole round. Assumes nothing.
use Rattle.boxes.proofs.ShrinkRounds.{Going}
use Rattle.boxes.proofs.shrink.look_round.Given as goal

abbrev pub invariant-loop-field : goal.invariant-loop-field
invariant-loop-field l = Going l.fn.input l.fn.rooms l.field-iterator l.rooms
