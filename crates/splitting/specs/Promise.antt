-- What the public functions of `src/` promise. Their contracts and the theorems that each allows one result cite these. Assumes nothing.
use Rattle.std.specs.Prelude.{◌≡◌, List, ℕ}
use Rattle.lists.specs.Buffer.{over}
use Rattle.steps.specs.Boxes.{first_half, other_half, smallest_of}
use Rattle.rooms.specs.Held.{Held, with_box}
use Rattle.splitting.specs.declared.halves.Half.{Half}
use Rattle.splitting.specs.declared.halves.Half.TheVariants.{First, Other}

-- a half of the rooms at an index: the smallest value alone in that room, or its other values
unfoldable pub half_of : Half → ℕ → List ℕ → List ℕ
half_of First i rooms = first_half i rooms
half_of Other i rooms = other_half i rooms

-- `keep_half`: that half of the rooms, in front of the same rest
abbrev pub KeepsHalf : Half → Held → ℕ → Held → Type 0
KeepsHalf half before i after = after ≡ with_box (half_of half i before.box) before

-- `write_smallest`: the smallest value of each of the rooms, and behind them what the buffer had
abbrev pub WritesSmallest : Held → List ℕ → List ℕ → Type 0
WritesSmallest rooms before after = after ≡ over (smallest_of rooms.box) before
