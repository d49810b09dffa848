-- What `rounds_most` promises: the end of a progress bar, for every input. Assumes nothing.
use Rattle.std.specs.Prelude.{ℕ, ◌≤◌, ◌≡◌, List}
use Rattle.steps.specs.Table.{most_rounds}
use Rattle.searching.specs.declared.reply.Reply.{Reply}
use Rattle.planner.specs.Promise.{Planned}

-- r is the most rounds of the file's first box, by its starting sets, and 0 for a file that is refused; no reply of `plan` to this input has more
pub record RoundsMost (input : List ℕ) (r : ℕ) : Type 0 where
  pub exactly : r ≡ most_rounds input
  pub enough : (before after : List ℕ) (allowed : ℕ) (reply : Reply) → Planned input before after allowed reply → reply.rounds ≤ r
