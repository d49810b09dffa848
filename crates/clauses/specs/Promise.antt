-- What the public functions of `src/` promise. Their contracts and the theorems that each allows one result cite these. Assumes nothing.
use Rattle.std.specs.Prelude.{◌≡◌, Bool, false, List, ℕ}
use Rattle.rules.specs.Each.{atoms_in}
use Rattle.steps.specs.Shrinking.{united, look_clause, settled_clause}
use Rattle.rooms.specs.Held.{Held}
use Rattle.rooms.specs.Looks.{Leaves}

-- `look_atoms`: what a look at the clause of these bytes leaves, and where it is dead the rooms as they were
pub record LooksAtoms (before : Held) (content : List ℕ) (r : Bool) (after : Held) : Type 0 where
  pub leaves : Leaves look_clause (atoms_in content) before r after
  pub kept : r ≡ false → after ≡ before

-- `united_at`: the union of the sets of a position in the clause of these bytes
abbrev pub UnitesAt : List ℕ → ℕ → ℕ → Type 0
UnitesAt content position r = r ≡ united position (atoms_in content)

-- `settled_united`: whether some position of the clause of these bytes has its room inside the union of its sets
abbrev pub SettlesUnited : Held → List ℕ → Bool → Type 0
SettlesUnited rooms content r = r ≡ settled_clause rooms.box (atoms_in content)
