-- The loop of `lowest::equality::untaken`: of the values left, those that the positions that are left leave are those that all leave. Assumes nothing.
use Rattle.std.proofs.Common.{◌≡◌, ◌≤◌, length, drop}
use Rattle.lowest.specs.Untaken.{untaken}
use Rattle.lowest.proofs.equality.untaken.Given as goal

abbrev pub invariant-loop-p : goal.invariant-loop-p
invariant-loop-p l = (l.p-index ≤ length l.positions) × (untaken l.rooms.box l.fn.set l.positions ≡ untaken l.rooms.box l.left (drop l.p-index l.positions))
