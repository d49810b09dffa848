-- The loop of `boxes::equality::look_inside`: the clauses of the positions that are left are left to look at. Assumes nothing.
use Rattle.std.proofs.Common.{drop}
use Rattle.steps.specs.Shrinking.{look_part, look_parts}
use Rattle.rules.specs.Parts.{each_inside}
use Rattle.boxes.proofs.LooksInTurn.{LeftToLook}
use Rattle.boxes.proofs.equality.look_inside.Given as goal

abbrev pub invariant-loop-position : goal.invariant-loop-position
invariant-loop-position l = LeftToLook look_part look_parts (each_inside l.set l.positions) (each_inside l.set (drop l.position-index l.positions)) l.initial.rooms l.rooms
