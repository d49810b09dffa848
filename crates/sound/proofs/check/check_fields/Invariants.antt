-- The loop of `sound::check::check_fields`: the fields from `at` on decide; the measure is the bytes left.
use Rattle.std.proofs.Common.{◌-◌, length}
use Rattle.sound.proofs.CheckLaws.{Unchecked}
use Rattle.sound.proofs.check.check_fields.Given as goal

abbrev pub invariant-loop-at : goal.invariant-loop-at
invariant-loop-at l = Unchecked l.input l.limits.positions l.limits.values l.seen l.at

abbrev pub decreases-loop-at : goal.decreases-loop-at
decreases-loop-at l = length l.input - l.at
