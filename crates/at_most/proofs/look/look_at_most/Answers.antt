-- `at_most::look::look_at_most` meets its contract: by the rooms that lie inside the set, before any is cut. Assumes nothing.
use Rattle.std.proofs.Common.{arith}
use Rattle.at_most.proofs.RuleLooks.{looks-dead, looks-cut, looks_same, positions_fit}
use Rattle.at_most.proofs.look.look_at_most.Goals as goal

pub counted-inside-requires : goal.counted-inside-requires
counted-inside-requires c = positions_fit c.args.content.now c.of-rule.ensures c.requires

pub cut_others-requires : goal.cut_others-requires
cut_others-requires c = positions_fit c.args.content.now c.of-rule.ensures c.requires

pub returns-then-rule-inside : goal.returns-then-rule-inside
returns-then-rule-inside c = looks-dead c.args.content.now c.of-rule.ensures c.args.rooms.now c.counted-inside.ensures.0 c.if-rule-inside.true

pub returns-then-inside-rule : goal.returns-then-inside-rule
returns-then-inside-rule c = looks-cut c.args.content.now c.of-rule.ensures c.args.rooms.now c.counted-inside.ensures.0 c.if-inside-rule.true c.cut_others.ensures

pub returns-else-inside-rule : goal.returns-else-inside-rule
returns-else-inside-rule c =
    looks_same c.args.content.now c.of-rule.ensures c.args.rooms.now c.counted-inside.ensures.0 (omega (arith, c.if-rule-inside.false, c.if-inside-rule.false))
