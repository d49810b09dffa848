-- `sets::Room::full` meets its contract: outside 1 to 32 the set is empty, and inside the shift makes it. Assumes nothing.
use Rattle.std.proofs.Common.{arith}
use Rattle.sets.proofs.Kept.{full-kept}
use Rattle.sets.proofs.Shifts.{full_outside, full_shifted}
use Rattle.sets.proofs.Room.full.Goals as goal

pub returns-then-n-lt1 : goal.returns-then-n-lt1
returns-then-n-lt1 c = full-kept (full_outside c.args.n (λ h. omega arith))

pub returns : goal.returns
returns c = full-kept (full_shifted c.args.n (omega arith) (omega arith))
