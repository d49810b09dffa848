-- `rules::atoms::EachAtom::next` meets its contract: the first atom, and the others. Assumes nothing.
use Rattle.std.proofs.Common.{arith, ◌≡◌, ap, ap₂, sym, length, drop, ◌∙◌, ℕ, ◌+◌, ◌-◌, ◌≤◌, List, ◌∷◌}
use lib.ListN.{length-drop}
use Rattle.rules.specs.declared.field.Atom.{Atom}
use Rattle.rules.specs.Each.{atoms_in}
use Rattle.rules.specs.Reading.{atom_of}
use Rattle.rules.proofs.Reading.EachLaws.{atoms_short, atoms_at}
use Rattle.rules.proofs.atoms.EachAtomIterator.next.Goals as goal

-- an atom was taken at a place, and the next one stands five bytes on
taken : (bytes : List ℕ) (at : ℕ) {next : ℕ} {left : List Atom} {a : Atom} → atoms_in (drop at bytes) ≡ left → at + 5 ≤ length bytes → a ≡ atom_of (drop at bytes) → next ≡ at + 5
    → left ≡ a ∷ atoms_in (drop next bytes)
taken bytes at view there here on =
    sym view ∙ atoms_at bytes at there ∙ ap₂ (λ (x : Atom) (k : ℕ). x ∷ atoms_in (drop k bytes)) (sym here) (sym on)

pub returns-then-self-end-clause-steps : goal.returns-then-self-end-clause-steps
returns-then-self-end-clause-steps c =
    let bytes = c.self.inside.bytes.now in
    let at = c.self.inside.end - 5 in
    let none = sym c.self.view_is ∙ atoms_short (drop at bytes) (omega (arith, length-drop at bytes, c.self.invariant, c.if-self-end.true)) in (none, none)

pub returns-clause-steps : goal.returns-clause-steps
returns-clause-steps c = taken c.self.inside.bytes.now (c.self.inside.end - 5) c.self.view_is (omega arith) c.atom_at-atom.ensures (omega arith)

pub returns-clause-goes : goal.returns-clause-goes
returns-clause-goes c = let fewer = ap length (returns-clause-steps c) in record { on = λ _. (tt, tt, omega (arith, fewer)); keeps = tt; rests = λ _. tt }
