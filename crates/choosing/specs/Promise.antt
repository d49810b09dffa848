-- What the public function of `src/` promises. Its contract and the theorem that it allows one result cite this. Assumes nothing.
use Rattle.std.specs.Prelude.{◌≡◌, List, ℕ, Option, length}
use Rattle.rules.specs.Sound.{fields_in}
use Rattle.steps.specs.Search.{chosen}
use Rattle.rooms.specs.Held.{Held}
use Rattle.choosing.specs.FirstWide.{index_below}

-- `choose`: the lowest index that step 4 may split; none where that is the number of rooms
abbrev pub Chooses : List ℕ → Held → Option ℕ → Type 0
Chooses input rooms r = r ≡ index_below (length rooms.box) (chosen (fields_in input) rooms.box)
