-- `list`: the bytes that are read lie within the space. The measure is the room that is left, which a read of any byte makes less.
use Rattle.std.proofs.Common.{◌≤◌, ◌-◌, length}
use Rattle.reading.proofs.list.list.Given as goal

abbrev pub invariant-loop-len : goal.invariant-loop-len
invariant-loop-len g l = l.len ≤ length l.space

abbrev pub decreases-loop-len : goal.decreases-loop-len
decreases-loop-len g l = length l.space - l.len
