-- The loops of `choosing::choose::choose`. Over the fields: what those that are left leave to be split, below `best`, is what is chosen. Over a clause's atoms: the lowest live position below `best` is that by the atoms that are left, below `low`. Assumes nothing.
use Rattle.rules.specs.Each.{atoms_in}
use Rattle.lowest.proofs.LiveAtoms.{AtomsLeft}
use Rattle.choosing.proofs.ChosenFields.{FieldsLeft}
use Rattle.choosing.proofs.choose.choose.Given as goal

abbrev pub invariant-fields : goal.invariant-fields
invariant-fields l = FieldsLeft l.input l.rooms.box l.field-iterator l.best

abbrev pub invariant-loop-atom : goal.invariant-loop-atom
invariant-loop-atom l = AtomsLeft (atoms_in l.field.content.now) l.atom-iterator l.rooms.box l.best l.low
