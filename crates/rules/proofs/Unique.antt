-- Any two results that a promise of `src/` allows are equal, for each public function. Assumes nothing.
use mathlib.Core.Path.{◌≡◌}
use mathlib.Core.List.{List}
use Prim.Native.Nat.{ℕ}
use Rattle.sets.proofs.Unique.{one-result}
use Rattle.rules.specs.declared.field.Tag.{Tag}
use Rattle.rules.specs.declared.field.Atom.{Atom}
use Rattle.rules.specs.declared.field.Head.{Head}
use Rattle.rules.specs.Promise.{TagOf, SetAt, AtomAt, HeadAt}

-- the kind that `tag_of` answers
pub tag_of_unique : (tag : ℕ) {r s : Tag} → TagOf tag r → TagOf tag s → r ≡ s
tag_of_unique tag p q = one-result p q

-- the set that `set_at` answers
pub set_at_unique : (bytes : List ℕ) (at : ℕ) {r s : ℕ} → SetAt bytes at r → SetAt bytes at s → r ≡ s
set_at_unique bytes at p q = one-result p q

-- the atom that `atom_at` answers
pub atom_at_unique : (bytes : List ℕ) (at : ℕ) {r s : Atom} → AtomAt bytes at r → AtomAt bytes at s → r ≡ s
atom_at_unique bytes at p q = one-result p q

-- the head that `head_at` answers
pub head_at_unique : (bytes : List ℕ) (at : ℕ) {r s : Head} → HeadAt bytes at r → HeadAt bytes at s → r ≡ s
head_at_unique bytes at p q = one-result p q
