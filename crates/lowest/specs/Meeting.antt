-- The lowest index of a named position whose room has two or more values and meets a set. Assumes nothing.
use Rattle.std.specs.Prelude.{ℕ, ◌+◌, Bool, ◌&&◌, List, get_or}
use Rattle.lists.specs.Lowest.{lowest}
use Rattle.sets.specs.Sets.{meets}
use Rattle.rules.specs.Reading.{named}
use Rattle.steps.specs.Boxes.{wide}

-- whether the room at an index is that of a named position, has two or more values and meets the set
abbrev pub meets_at : List ℕ → ℕ → List ℕ → ℕ → Bool
meets_at box m ps i = named (i + 1) ps && (wide box i && meets (get_or box i 0) m)

-- the lowest such index below a bound, and the bound where there is none
abbrev pub lowest_meeting : List ℕ → ℕ → List ℕ → ℕ → ℕ
lowest_meeting box m ps bound = lowest (meets_at box m ps) bound
