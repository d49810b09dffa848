-- The loop of `clauses::settle::settled_united`: the atoms that were passed do not show the clause settled. Assumes nothing.
use Rattle.std.proofs.Common.{length}
use Rattle.rules.specs.Contents.{AtomsFit}
use Rattle.rules.specs.Each.{atoms_in}
use Rattle.clauses.proofs.SettledClauses.{Trying}
use Rattle.clauses.proofs.settle.settled_united.Given as goal

abbrev pub invariant-loop-atom : goal.invariant-loop-atom
invariant-loop-atom l = AtomsFit (length l.rooms.box) l.atom-iterator × Trying l.rooms.box (atoms_in l.content) l.atom-iterator l.met l.tried
