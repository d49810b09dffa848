-- The scan that works out the union of a position's sets: what is united so far, with what is left, is the whole. Assumes nothing.
use mathlib.Core.Path.{◌≡◌, sym, ap, ◌∙◌}
use mathlib.Core.List.{List, []}
use Prim.Native.Nat.{ℕ}
use Rattle.sets.specs.Sets.{union}
use Rattle.sets.proofs.Unions.{union_empty}
use Rattle.rules.specs.declared.field.Atom.{Atom}
use Rattle.rules.specs.Each.{atoms_in}
use Rattle.steps.specs.Shrinking.{united}
use Rattle.clauses.specs.Promise.{UnitesAt}
use Rattle.clauses.proofs.UnitedLaws.{united_none}

-- these atoms of a content are left, and of the others the sets of a position are united
abbrev pub Uniting : ℕ → ℕ → List ℕ → List Atom → Type 0
Uniting p all content left = united p (atoms_in content) ≡ union all (united p left)

-- at the end none is left
pub uniting_ends : (p all : ℕ) (content : List ℕ) {left : List Atom} → Uniting p all content left → left ≡ [] → UnitesAt content p all
uniting_ends p all content uniting past = sym (uniting ∙ ap (λ (atoms : List Atom). union all (united p atoms)) past ∙ ap (union all) (united_none p) ∙ union_empty all)
