-- The boxes that a search can come to: from its first box by looks at parts of rules and by splits, whatever their order. Assumes nothing.
use Rattle.std.specs.Prelude.{ℕ, ◌≤◌, ◌<◌, ◌≡◌, List, length, get_or}
use Rattle.sets.specs.Sets.{count}
use Rattle.rules.specs.Parts.{Part}
use Rattle.steps.specs.Boxes.{first_half, other_half}
use Rattle.steps.specs.Shrinking.{alive, look_part}

-- A step of the search makes such a box of such a box: a look at any part that is not dead, and either half at any room with two or more values. The search takes
-- some of these steps alone, those of the definitions of shrinking and of step 4.
pub data Reached (start : List ℕ) : List ℕ → Type 0 where
  begins : Reached start start
  looks : {box box' : List ℕ} (place : ℕ) (part : Part) → Reached start box → look_part place part box ≡ alive box' → Reached start box'
  splits_first : {box : List ℕ} (i : ℕ) → Reached start box → i < length box → 2 ≤ count (get_or box i 0) → Reached start (first_half i box)
  splits_other : {box : List ℕ} (i : ℕ) → Reached start box → i < length box → 2 ≤ count (get_or box i 0) → Reached start (other_half i box)
