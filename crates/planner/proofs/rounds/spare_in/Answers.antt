-- `planner::rounds::spare_in` meets its contract: the number of values less one, and 0 for the empty room; a room has 32 values at most. Assumes nothing.
use Rattle.std.proofs.Common.{arith}
use Rattle.sets.proofs.Counting.{count-at_most}
use Rattle.planner.proofs.rounds.spare_in.Goals as goal

pub returns : goal.returns
returns c = let most = count-at_most c.args.room (omega (arith, c.from.ensures)) in (omega (arith, c.count.ensures.result), omega (arith, c.count.ensures.result))
