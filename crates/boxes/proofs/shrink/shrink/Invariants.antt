-- The loop of `boxes::shrink::shrink`: shrinking the rooms as they are makes the whole, with the rounds before this one in front; the measure is the number of open values. Assumes nothing.
use Rattle.steps.specs.Boxes.{open_values}
use Rattle.boxes.proofs.ShrinkRounds.{Cutting}
use Rattle.boxes.proofs.shrink.shrink.Given as goal

abbrev pub invariant-loop-dead : goal.invariant-loop-dead
invariant-loop-dead l = Cutting l.input l.fn.rooms l.rooms l.rounds

abbrev pub decreases-loop-dead : goal.decreases-loop-dead
decreases-loop-dead l = open_values l.rooms.box
