-- `at_most::settle::settled_at_most` meets its contract: by the rooms that meet the set. Assumes nothing.
use Rattle.at_most.proofs.RuleLooks.{settles, positions_fit}
use Rattle.at_most.proofs.settle.settled_at_most.Goals as goal

pub counted-requires : goal.counted-requires
counted-requires c = positions_fit c.args.content.now c.of-rule.ensures c.requires

pub returns : goal.returns
returns c = settles c.args.content.now c.of-rule.ensures c.args.rooms.now c.counted.ensures.1
