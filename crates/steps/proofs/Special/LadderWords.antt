-- Where a position has no starting set, a united set counts as empty or {1..b} exactly where 01's own words say so: `ladder_else`. Assumes nothing.
use mathlib.Core.Path.{◌≡◌, sym, subst}
use mathlib.Core.Logic.Iff
use mathlib.Core.Logic.{◌↔◌}
use mathlib.Core.List.{List}
use Prim.Native.Nat.{ℕ, ◌≤◌}
use lib.Dec.{T}
use Rattle.sets.specs.Sets.{IsMember, full, inside}
use Rattle.sets.proofs.Sameness.{inside_iff, full_below}
use Rattle.lists.specs.Lists.{Every}
use Rattle.lists.proofs.ListLaws.{every_with_some}
use Rattle.rules.specs.declared.field.Atom.{Atom}
use Rattle.rules.specs.Rules.{File}
use Rattle.rules.specs.Writing.{AtomFits, Within}
use Rattle.steps.specs.Boxes.{room_at}
use Rattle.steps.specs.Shrinking.{united}
use Rattle.steps.specs.Start.{start_of}
use Rattle.steps.proofs.Looks.LiveLaws.{member-united}
use Rattle.steps.proofs.Special.LadderLaws.{EverySmaller, Ladder, ladder-exactly, ladder_of-full}
use Rattle.steps.proofs.Start.StartLaws.{NoStartOf, start_else}

-- sets within {1..n} unite to one
united-inside : (v n p : ℕ) (atoms : List Atom) → Every (AtomFits v n) atoms → T (inside (united p atoms) (full n))
united-inside v n p atoms fits =
    (inside_iff (united p atoms) (full n)).1 λ x t.
    let found = every_with_some (AtomFits v n) (λ a. (a.position ≡ p) × IsMember x a.set) atoms fits ((member-united p x atoms).0 t) in
    (inside_iff found.0.set (full n)).0 found.2.1 x found.3.1

-- of a clause within the limits, at a position without a starting set
pub ladder_else : (file : File) → Within file → (p : ℕ) → (1 ≤ p) × (p ≤ file.v) → Every (NoStartOf p) file.rules → (atoms : List Atom) → Every (AtomFits file.v file.n) atoms
    → EverySmaller (room_at (start_of file) p) (united p atoms) ↔ Ladder (united p atoms)
ladder_else file within p here none atoms fits =
    let m = united p atoms in
    subst (λ (start : ℕ). EverySmaller start m ↔ Ladder m) (sym (start_else file within p here none))
    (Iff.trans (Iff.symm (ladder-exactly (full file.n) m (full_below file.n))) (ladder_of-full file.n m within.values.1 (united-inside file.v file.n p atoms fits)))
