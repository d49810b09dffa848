-- The loop of `contents::content::atoms_fault`: the fault of all is that of those that are left.
use Rattle.std.proofs.Common.{◌≡◌}
use Rattle.rules.specs.Each.{atoms_in}
use Rattle.rules.specs.Reading.{atoms_fault}
use Rattle.contents.proofs.content.atoms_fault.Given as goal

abbrev pub invariant-loop-atom : goal.invariant-loop-atom
invariant-loop-atom l = atoms_fault l.v l.n (atoms_in l.content) ≡ atoms_fault l.v l.n l.atom-iterator
