-- What `oarloom_plan` promises of the buffer and of the five cells. Assumes nothing.
use Rattle.std.specs.Prelude.{ℕ, List}
use Rattle.planner.specs.Promise.{Planned}

-- the numbers in the cells are those of a reply that the planner promises for this call and this buffer
abbrev pub Linked : List ℕ → List ℕ → List ℕ → ℕ → ℕ → ℕ → ℕ → ℕ → ℕ → Type 0
Linked input before after allowed number place splits dead_ends rounds =
    Planned input before after allowed (record { number = number; place = place; splits = splits; dead_ends = dead_ends; rounds = rounds })
