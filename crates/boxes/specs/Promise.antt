-- What the public function of `src/` promises. Its contract and the theorem that it allows one result cite this. Assumes nothing.
use Rattle.std.specs.Prelude.{◌≡◌, List, ℕ}
use Rattle.rules.specs.Sound.{fields_in}
use Rattle.steps.specs.Shrinking as steps
use Rattle.steps.specs.Rounds.{rounds_of}
use Rattle.rooms.specs.Held.{Held}
use Rattle.boxes.specs.declared.shrink.Shrunk.{Shrunk}
use Rattle.boxes.specs.Rounds.{verdict_of, rooms_left}

-- `shrink`: the verdict that shrinking the rooms of the positions under the file's rules gives and the rounds that it takes, and the rooms that it leaves
pub record Shrinks (input : List ℕ) (before : Held) (r : Shrunk) (after : Held) : Type 0 where
  pub answer : r ≡ record { verdict = verdict_of (steps.shrunk (fields_in input) before.box); rounds = rounds_of (fields_in input) before.box }
  pub rooms : after ≡ rooms_left (steps.shrunk (fields_in input) before.box) before
