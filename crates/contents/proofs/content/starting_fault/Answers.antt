-- `contents::content::starting_fault` meets its contract: the position, the set, and then whether it has a value. Assumes nothing.
use Rattle.std.proofs.Common.{◌≡◌, ℕ, arith, ap, ◌∙◌}
use Rattle.rules.specs.declared.field.Atom.{Atom}
use Rattle.rules.specs.Reading.{rule_of, atom_fault, empty_fault, rule_fault}
use Rattle.contents.proofs.FaultLaws.{told_first, none_told}
use Rattle.contents.proofs.content.starting_fault.Goals as goal

-- one atom within the same limits has one fault
alike : {v w n m : ℕ} {a b : Atom} → v ≡ w → n ≡ m → a ≡ b → atom_fault v n a ≡ atom_fault w m b
alike p q r = cc

pub returns-in_err-atom_fault : goal.returns-in_err-atom_fault
unfolding rule_of rule_fault
returns-in_err-atom_fault c =
    told_first _ _ _ c.from_residual.ensures.1 (c.in_err-atom_fault.ensures ∙ alike (grind arith) (grind arith) (grind (arith, c.atom_at-atom.ensures)))

pub returns : goal.returns
unfolding rule_of rule_fault
returns c =
    c.empty_fault.ensures ∙ ap empty_fault (grind (arith, ap (λ (a : Atom). a.set) c.atom_at-atom.ensures))
    ∙ none_told _ (c.in_ok-atom_fault.ensures ∙ alike (grind arith) (grind arith) (grind (arith, c.atom_at-atom.ensures)))
