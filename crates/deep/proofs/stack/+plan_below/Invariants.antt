-- `plan_below` calls itself; the measure is the number of blocks.
use Rattle.deep.proofs.stack.+plan_below.Given as goal

abbrev pub decreases-plan_below : goal.decreases-plan_below
decreases-plan_below l = l.blocks
