-- The lowest index that may be split because of one rule. The promise and the contracts of inner functions cite this. Assumes nothing.
use Rattle.std.specs.Prelude.{ℕ, ◌+◌, Bool, ◌&&◌, List}
use Rattle.lists.specs.Lowest.{lowest}
use Rattle.rules.specs.Rules.{Rule}
use Rattle.steps.specs.Boxes.{wide}
use Rattle.steps.specs.Shrinking.{live_in_rule}

-- whether step 4 may split the room at an index because of the rule: it has two or more values, and its position is live in a part of the rule that is not settled
abbrev pub splits_by : List ℕ → Rule → ℕ → Bool
splits_by box rule i = wide box i && live_in_rule box (i + 1) rule

-- the lowest such index below a bound, and the bound where there is none
abbrev pub lowest_by : List ℕ → Rule → ℕ → ℕ
lowest_by box rule bound = lowest (splits_by box rule) bound
