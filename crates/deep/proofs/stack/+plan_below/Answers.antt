-- The slice of a block is as long as the block: 64,832 bytes, which the search would count one by one.
use Rattle.std.proofs.Common.{refl}
use Rattle.deep.proofs.stack.+plan_below.Goals as goal

pub slice_bounds-plan_below-end : goal.slice_bounds-plan_below-end
slice_bounds-plan_below-end t c = refl
