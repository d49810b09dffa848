-- The loop of `splitting::values::write_smallest`: the values of the first `i` rooms stand in front of what the buffer had. Assumes nothing.
use Rattle.std.proofs.Common.{◌≡◌, take}
use Rattle.lists.specs.Buffer.{over}
use Rattle.steps.specs.Boxes.{smallest_of}
use Rattle.splitting.proofs.values.write_smallest.Given as goal

abbrev pub invariant-loop-i : goal.invariant-loop-i
invariant-loop-i l = l.answer ≡ over (smallest_of (take l.i l.rooms.box)) l.fn.answer
