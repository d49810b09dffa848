-- Step 4 as it was before R-2, to compare with: it splits the lowest room with two or more values, whatever the rules say of it. Assumes nothing.
use Rattle.std.specs.Prelude.{ℕ, zero, suc, ◌+◌, List, length}
use Rattle.lists.specs.Lowest.{lowest}
use Rattle.rules.specs.Rules.{Field}
use Rattle.steps.specs.Boxes.{open_values, wide, smallest_of, first_half, other_half}
use Rattle.steps.specs.Shrinking.{if_alive, if_test, shrunk, settled}
use Rattle.steps.specs.Reply.{Reply, plan, none}
use Rattle.steps.specs.Search.{if_none}

-- the lowest index of a room with two or more values, and the number of rooms where there is none
unfoldable pub lowest_wide : List ℕ → ℕ
lowest_wide box = lowest (wide box) (length box)

-- `search` without an allowance, with that index in place of the chosen one
unfoldable pub explore_wide : (List ℕ → ℕ → ℕ → Reply) → ℕ → List Field → List ℕ → ℕ → ℕ → Reply
explore_wide deeper zero fields box s d = deeper box s d
explore_wide deeper (suc k) fields box s d =
    if_alive (shrunk fields box) (λ place. none place s (d + 1)) λ inner.
    if_test (settled fields inner) (plan (smallest_of inner) s d) λ _.
    if_none (explore_wide deeper k fields (first_half (lowest_wide inner) inner) (s + 1) d) λ s' d'.
    explore_wide deeper k fields (other_half (lowest_wide inner) inner) s' d'

-- the whole of it, whatever it answers any deeper: what it gave, and the splits that it needed
unfoldable pub explored_wide : (List ℕ → ℕ → ℕ → Reply) → List Field → List ℕ → Reply
explored_wide deeper fields box = explore_wide deeper (suc (open_values box)) fields box 0 0
