-- `sets::Room::single` meets its contract: outside 1 to 32 the set is empty, and inside the shift makes it. Assumes nothing.
use Rattle.std.proofs.Common.{arith}
use Rattle.sets.proofs.Kept.{single-kept}
use Rattle.sets.proofs.Shifts.{single_outside, single_shifted}
use Rattle.sets.proofs.Room.single.Goals as goal

pub returns-then-x-lt1 : goal.returns-then-x-lt1
returns-then-x-lt1 c = single-kept (single_outside c.args.x (λ h. omega arith))

pub returns : goal.returns
returns c = single-kept (single_shifted c.args.x (omega arith) (omega arith))
