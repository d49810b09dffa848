-- What is known of the content of a field of a sound file: whole atoms, and positions, from 1 to v. Assumes nothing.
use Rattle.std.specs.Prelude.{ℕ, ◌-◌, ◌*◌, ◌/◌, ◌≤◌, ◌≡◌, List, length, take, drop}
use Rattle.rules.specs.declared.field.Atom.{Atom}
use Rattle.rules.specs.declared.field.Tag.{Tag}
use Rattle.rules.specs.declared.field.Tag.TheVariants.{Header, Clause, Equality, Starting, AtMost, Unknown}
use Rattle.lists.specs.Lists.{Every}
use Rattle.rules.specs.Reading.{atoms_of}
use Rattle.rules.specs.Writing.{PositionFits}

-- every atom names a position from 1 to v
abbrev pub AtomsFit : ℕ → List Atom → Type 0
AtomsFit v atoms = Every (λ a. PositionFits v a.position) atoms

-- a content of so many bytes is whole atoms, each on one of at most 64 positions
pub record Atoms (v len : ℕ) (content : List ℕ) : Type 0 where
  pub whole : len / 5 * 5 ≡ len
  pub there : len ≤ length content
  pub few : v ≤ 64
  pub fit : AtomsFit v (atoms_of (len / 5) content)

-- positions from 1 to v
abbrev pub PositionsFit : ℕ → List ℕ → Type 0
PositionsFit v ps = Every (PositionFits v) ps

-- the first so many bytes name positions from 1 to v, at most 64
pub record Positions (v count : ℕ) (bytes : List ℕ) : Type 0 where
  pub there : count ≤ length bytes
  pub few : v ≤ 64
  pub fit : PositionsFit v (take count bytes)

-- what is known of a content of so many bytes, by its field's kind; no field behind the header is a header, and none is unknown
abbrev pub ContentFits : Tag → ℕ → ℕ → List ℕ → Type 0
ContentFits Header v len content = ⊥
ContentFits Clause v len content = Atoms v len content
ContentFits Equality v len content = (4 ≤ len) × Positions v (len - 4) (drop 4 content)
ContentFits Starting v len content = (len ≡ 5) × Atoms v len content
ContentFits AtMost v len content = (5 ≤ len) × Positions v (len - 5) (drop 5 content)
ContentFits Unknown v len content = ⊥
