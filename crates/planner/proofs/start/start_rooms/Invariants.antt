-- The loop of `planner::start::start_rooms`: with the starting sets of the fields that are left, over the rooms as they are, the rooms become those of all. Assumes nothing.
use Rattle.planner.proofs.StartsInTurn.{StartsLeft, plain}
use Rattle.planner.proofs.start.start_rooms.Given as goal

abbrev pub invariant-loop-field : goal.invariant-loop-field
invariant-loop-field l = StartsLeft l.input (plain l.positions l.n) l.field-iterator l.rooms
