-- The loop of `contents::content::positions_fault`: the fault of all is that of those that are left.
use Rattle.std.proofs.Common.{◌≡◌, drop}
use Rattle.rules.specs.Reading.{positions_fault}
use Rattle.contents.proofs.content.positions_fault.Given as goal

abbrev pub invariant-loop-position : goal.invariant-loop-position
invariant-loop-position l = positions_fault l.v l.positions ≡ positions_fault l.v (drop l.position-index l.positions)
