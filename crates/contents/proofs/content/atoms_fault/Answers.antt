-- `contents::content::atoms_fault` meets its contract: the first fault is that of the atom, else that of the atoms behind it. Assumes nothing.
use Rattle.std.proofs.Common.{sym, ap, ◌∙◌}
use Rattle.rules.specs.Fault.{number_told}
use Rattle.rules.specs.Reading.{atoms_fault}
use Rattle.contents.proofs.FaultLaws.{told_first, none_told}
use Rattle.contents.proofs.content.atoms_fault.Goals as goal

pub returns-in_err-atom_fault : goal.returns-in_err-atom_fault
unfolding atoms_fault
returns-in_err-atom_fault c =
    told_first _ _ _ c.from_residual.ensures.1 c.in_err-atom_fault.ensures ∙ sym (c.loop-atom.invariant ∙ ap (atoms_fault c.args.v c.args.n) c.in-Some.ensures.steps)

pub loop-atom-preserved : goal.loop-atom-preserved
unfolding atoms_fault
loop-atom-preserved c = c.loop-atom.invariant ∙ ap (atoms_fault c.args.v c.args.n) c.in-Some.ensures.steps ∙ sym (none_told _ c.in_ok-atom_fault.ensures)

pub returns : goal.returns
unfolding number_told atoms_fault
returns c = sym (c.loop-atom.invariant ∙ ap (atoms_fault c.args.v c.args.n) c.in-None.ensures.steps.0)
