-- The loop of `contents::naming::twice_fault`: with marks on the positions that came before, those that are left decide.
use Rattle.contents.proofs.NamingLaws.{Naming}
use Rattle.contents.proofs.naming.twice_fault.Given as goal

abbrev pub invariant-loop-position : goal.invariant-loop-position
invariant-loop-position l = Naming l.positions l.seen l.position-index
