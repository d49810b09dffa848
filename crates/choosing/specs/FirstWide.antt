-- The first room with two or more values, and an index as the code answers it. The contract of an inner function and the promise cite these. Assumes nothing.
use Rattle.std.specs.Prelude.{ℕ, List, Option, ltb, length}
use Rattle.std.specs.Bool.{then_some}
use Rattle.lists.specs.Lowest.{lowest}
use Rattle.steps.specs.Boxes.{wide}

-- the index of the first room with two or more values, and the number of rooms where there is none
abbrev pub first_wide : List ℕ → ℕ
first_wide box = lowest (wide box) (length box)

-- an index below a bound; none where it is the bound
abbrev pub index_below : ℕ → ℕ → Option ℕ
index_below bound i = then_some (ltb i bound) i
