-- The loop of `at_most::rule::AtMostRule::counted`: what was counted and what the positions that are left add is the whole. Assumes nothing.
use Rattle.std.proofs.Common.{◌≤◌, length, drop}
use Rattle.at_most.proofs.CountLaws.{CountsLeft}
use Rattle.at_most.proofs.rule.AtMostRule.counted.Given as goal

abbrev pub invariant-loop-p : goal.invariant-loop-p
invariant-loop-p l = (l.p-index ≤ length l.self.positions.now) × CountsLeft l.self.positions.now (drop l.p-index l.self.positions.now) l.rooms.box l.self.set l.p-index l.inside l.meeting
