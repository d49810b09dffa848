-- `take_whole`: the bytes that are read lie within the buffer, which is as long as it was. The measure is the room that is left and the tries that are left: a turn with more to follow leaves less room, and an interrupted one fewer tries. Assumes nothing.
use Rattle.std.proofs.Common.{◌≤◌, ◌+◌, ◌-◌, length}
use Rattle.streams.proofs.take_whole.Given as goal

abbrev pub invariant-loop-len : goal.invariant-loop-len
invariant-loop-len g l = l.done ≤ length l.buf

abbrev pub decreases-loop-len : goal.decreases-loop-len
decreases-loop-len g l = (length l.buf - l.done) + (l.tries.end - l.tries.start)
