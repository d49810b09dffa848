-- The box that the search of a file starts with: the starting sets (R-6), and {1..n} where a position has none. Assumes nothing.
use Rattle.std.specs.Prelude.{ℕ, List, [], ◌∷◌}
use Rattle.rules.specs.Rules.{Rule, File, clause, equality, starting, at_most}
use Rattle.steps.specs.Boxes.{with_room, start_box}

-- a starting set is the room of its position; no other rule says where to start
unfoldable pub start_by : Rule → List ℕ → List ℕ
start_by (clause atoms) box = box
start_by (equality m ps) box = box
start_by (starting a) box = with_room box a.position a.set
start_by (at_most k m ps) box = box

-- the starting sets among all rules, wherever they stand
unfoldable pub starts_by : List Rule → List ℕ → List ℕ
starts_by [] box = box
starts_by (r ∷ rules) box = starts_by rules (start_by r box)

-- the box that the search of a file starts with: {1..n} everywhere but where a rule says otherwise
unfoldable pub start_of : File → List ℕ
start_of file = starts_by file.rules (start_box file.v file.n)
