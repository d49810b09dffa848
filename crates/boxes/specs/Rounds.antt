-- What a round leaves, and what shrinking answers, a verdict, and leaves, rooms of positions. Assumes nothing.
use Rattle.std.specs.Prelude.{ℕ, ◌-◌, List, Result, Ok, Err, length, replicate}
use Rattle.rules.specs.Sound.{fields_in}
use Rattle.steps.specs.Shrinking.{Look, dead, alive, round}
use Rattle.rooms.specs.Held.{Held, with_box}
use Rattle.rooms.specs.Looks.{AfterLook}
use Rattle.boxes.specs.declared.shrink.Dead.{Dead}

-- the verdict that the box lives, or that the field with a place is dead
abbrev pub lives : Result (Unit {0}) Dead
lives = Ok tt

abbrev pub dead_at : ℕ → Result (Unit {0}) Dead
dead_at place = Err (record { place = place })

-- what a round over the rooms leaves: the place of a dead field; or the rooms of the box in front of the same rest
pub record Rounded (input : List ℕ) (before : Held) (r : Result (Unit {0}) Dead) (after : Held) : Type 0 where
  pub leaves : AfterLook dead_at lives (round (fields_in input) before.box) r after before.rest

-- the verdict that shrinking answers
unfoldable pub verdict_of : Look → Result (Unit {0}) Dead
verdict_of (dead place) = dead_at place
verdict_of (alive box) = lives

-- the rooms of so many positions where none of all 64 rooms has a value
abbrev pub without_values : ℕ → Held
without_values v = record { box = replicate v 0; rest = replicate (64 - v) 0 }

-- the rooms that shrinking leaves: where it is dead no room has a value
unfoldable pub rooms_left : Look → Held → Held
rooms_left (dead place) before = without_values (length before.box)
rooms_left (alive box) before = with_box box before
