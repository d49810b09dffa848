-- Rooms as they are held in an array: those of the positions 1 to v in front, and the rest, which plays no part. Assumes nothing.
use Rattle.std.specs.Prelude.{ℕ, List}

-- the box of v rooms, and the rest of the array
pub record Held : Type 0 where
  pub box : List ℕ
  pub rest : List ℕ

-- another box in front of the same rest
abbrev pub with_box : List ℕ → Held → Held
with_box box held = record { box = box; rest = held.rest }
