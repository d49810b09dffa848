-- What the scan over a clause's atoms that a look is has met. Assumes nothing.
use Rattle.std.specs.Prelude.{ℕ, ◌≤◌, ◌≡◌, List, [], Option, Some, None, length}
use Rattle.sets.specs.Sets.{common, union}
use Rattle.rules.specs.declared.field.Atom.{Atom}
use Rattle.steps.specs.Boxes.{room_at}
use Rattle.steps.specs.Shrinking.{united}
use Rattle.rules.specs.Contents.{AtomsFit}
use Rattle.clauses.specs.declared.look.Met.{Met}

-- what the room of a position shares with its sets among these atoms
abbrev pub shared_in : List ℕ → List Atom → ℕ → ℕ
shared_in box atoms q = common (room_at box q) (united q atoms)

-- Of all these atoms some are left: in those passed no position is live but one, of whose room this was kept before and this is kept now.
pub record Scanned (box : List ℕ) (all left : List Atom) (position before now : ℕ) : Type 0 where
  pub others : (q : ℕ) → (q ≡ position → ⊥) → shared_in box all q ≡ shared_in box left q
  pub here : union before (shared_in box all position) ≡ union now (shared_in box left position)

-- of all these atoms some are left: in those passed this position is live and no other, and its room shares this with its sets there
pub record MetOne (box : List ℕ) (all left : List Atom) (position kept : ℕ) : Type 0 where
  pub low : 1 ≤ position
  pub live : kept ≡ 0 → ⊥
  pub scanned : Scanned box all left position 0 kept

-- the scan for the first live position: what it has met, and that the atoms that are left fit too; where it meets none, none is live
abbrev pub FirstMet : List ℕ → List Atom → Option Met → List Atom → Type 0
FirstMet box all (Some met) left = MetOne box all left met.position met.kept × AtomsFit (length box) left
FirstMet box all None left = (q : ℕ) → shared_in box all q ≡ 0

-- another position than this one is live by these atoms
pub record Another (box : List ℕ) (atoms : List Atom) (position : ℕ) : Type 0 where
  pub other : ℕ
  pub low : 1 ≤ other
  pub differs : other ≡ position → ⊥
  pub live : shared_in box atoms other ≡ 0 → ⊥

-- the scan of the atoms behind: another position is live, or none is, and this is what the room of the one shares with all of its sets
abbrev pub OnlyMet : List ℕ → List Atom → Met → Option ℕ → Type 0
OnlyMet box left met (Some kept) = Scanned box left [] met.position met.kept kept
OnlyMet box left met None = Another box left met.position
