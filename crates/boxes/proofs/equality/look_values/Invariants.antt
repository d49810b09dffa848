-- The loop of `boxes::equality::look_values`: the clauses of the values of `left` are left to look at; the measure is how many those are. Assumes nothing.
use Rattle.std.proofs.Common.{◌^◌, ◌<◌}
use Rattle.sets.specs.Sets.{count}
use Rattle.steps.specs.Shrinking.{look_part, look_parts}
use Rattle.rules.specs.Parts.{each_taken}
use Rattle.boxes.proofs.LooksInTurn.{LeftToLook}
use Rattle.boxes.proofs.equality.look_values.Given as goal

abbrev pub invariant-loop-left : goal.invariant-loop-left
invariant-loop-left l =
    (l.left < 2 ^ 32) × LeftToLook look_part look_parts (each_taken l.fn.set l.positions) (each_taken l.left l.positions) l.initial.rooms l.rooms

abbrev pub decreases-loop-left : goal.decreases-loop-left
decreases-loop-left l = count l.left
