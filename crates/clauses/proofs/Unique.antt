-- Any two results that a promise of `src/` allows are equal, for each public function. Assumes nothing.
use mathlib.Core.Path.{◌≡◌}
use mathlib.Core.Bool.{Bool}
use mathlib.Core.List.{List}
use Prim.Native.Nat.{ℕ}
use Rattle.sets.proofs.Unique.{one-result}
use Rattle.rules.specs.Each.{atoms_in}
use Rattle.steps.specs.Shrinking.{look_clause}
use Rattle.rooms.specs.Held.{Held}
use Rattle.rooms.proofs.LookLaws.{after_unique}
use Rattle.clauses.specs.Promise.{LooksAtoms, UnitesAt, SettlesUnited}

-- of `look_atoms`: the answer and the rooms
pub look_atoms_unique : (before : Held) (content : List ℕ) {r s : Bool} {after last : Held} → LooksAtoms before content r after → LooksAtoms before content s last → (r ≡ s) × (after ≡ last)
look_atoms_unique before content p q = after_unique (look_clause 0 (atoms_in content) before.box) before before.rest (p.leaves.by 0) (q.leaves.by 0) p.kept q.kept

-- of `united_at`
pub united_at_unique : (content : List ℕ) (position : ℕ) {r s : ℕ} → UnitesAt content position r → UnitesAt content position s → r ≡ s
united_at_unique content position p q = one-result p q

-- of `settled_united`
pub settled-united_unique : (rooms : Held) (content : List ℕ) {r s : Bool} → SettlesUnited rooms content r → SettlesUnited rooms content s → r ≡ s
settled-united_unique rooms content p q = one-result p q
