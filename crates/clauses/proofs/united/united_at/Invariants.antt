-- The loop of `clauses::united::united_at`: what is united so far, with the sets of the atoms that are left, is the whole. Assumes nothing.
use Rattle.clauses.proofs.UnitedScan.{Uniting}
use Rattle.clauses.proofs.united.united_at.Given as goal

abbrev pub invariant-loop-atom : goal.invariant-loop-atom
invariant-loop-atom l = Uniting l.position l.all l.content l.atom-iterator
