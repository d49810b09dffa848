-- The loop of `at_most::rule::AtMostRule::cut_others`: the rooms of the positions that are left are to be cut. Assumes nothing.
use Rattle.std.proofs.Common.{◌≤◌, length, drop}
use Rattle.at_most.proofs.CutLaws.{CutsLeft}
use Rattle.at_most.proofs.rule.AtMostRule.cut_others.Given as goal

abbrev pub invariant-loop-p : goal.invariant-loop-p
invariant-loop-p l = (l.p-index ≤ length l.self.positions.now) × CutsLeft l.self.positions.now (drop l.p-index l.self.positions.now) l.self.set l.initial.rooms l.rooms
