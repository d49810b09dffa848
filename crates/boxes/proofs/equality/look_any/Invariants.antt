-- The loop of `boxes::equality::look_any`: what the scan has met of the positions before the next. Assumes nothing.
use Rattle.std.proofs.Common.{drop}
use Rattle.boxes.proofs.EqualityLooks.{MetSoFar}
use Rattle.boxes.proofs.equality.look_any.Given as goal

abbrev pub invariant-loop-p : goal.invariant-loop-p
invariant-loop-p l = MetSoFar l.set l.positions (drop l.p-index l.positions) l.rooms.box l.live
