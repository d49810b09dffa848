-- The values of a set that no named position has alone in its room. Assumes nothing.
use Rattle.std.specs.Prelude.{ℕ, Bool, true, false, List, [], ◌∷◌, eqb}
use Rattle.sets.specs.Sets.{is_empty, count, beside}
use Rattle.steps.specs.Boxes.{room_at}

-- the values that a room leaves of a set, by whether it is empty and whether it has one value
abbrev pub left_by : Bool → Bool → ℕ → ℕ → ℕ
left_by true one room m = 0
left_by false true room m = beside room m
left_by false false room m = m

-- the values x of a set for which the room does not lie inside {x}: none where it is empty, all where it has two or more values
unfoldable pub without_alone : ℕ → ℕ → ℕ
without_alone room m = left_by (is_empty room) (eqb (count room) 1) room m

-- the values x of a set for which no named position has its room inside {x}
unfoldable pub untaken : List ℕ → ℕ → List ℕ → ℕ
untaken box m [] = m
untaken box m (p ∷ ps) = untaken box (without_alone (room_at box p) m) ps
