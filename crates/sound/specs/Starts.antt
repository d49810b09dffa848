-- What a field says of the starting set of a position, and that it is there to be read. Assumes nothing.
use Rattle.std.specs.Prelude.{ℕ, ◌≤◌, ◌≡◌, List, length, get_or}
use Rattle.rules.specs.declared.field.Tag.TheVariants.{Starting}
use Rattle.rules.specs.Rules.{Rule, clause, equality, starting, at_most}
use Rattle.rules.specs.Reading.{tag_of, head_of}
use Rattle.rules.specs.Writing.{PositionFits}

-- the position that a rule gives a starting set, and 0 where it gives none
unfoldable pub started_by : Rule → ℕ
started_by (clause atoms) = 0
started_by (equality m ps) = 0
started_by (starting a) = a.position
started_by (at_most k m ps) = 0

-- the bytes have a head, and where that announces a starting set, a position of at most 64 stands behind it
pub record StartThere (bytes : List ℕ) : Type 0 where
  pub head : 3 ≤ length bytes
  pub position : tag_of (head_of bytes).tag ≡ Starting → (4 ≤ length bytes) × PositionFits 64 (get_or bytes 3 0)
