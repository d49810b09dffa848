-- Boxes of rooms: the values still open for each position. Assumes nothing.
use Rattle.std.specs.Prelude.{ℕ, ◌+◌, ◌*◌, ◌-◌, ◌^◌, ◌<◌, ◌≡◌, Bool, List, [], ◌∷◌, map, T, leb, get_or, set, replicate}
use Rattle.sets.specs.Sets.{IsMember, full, single, inside, count, smallest, others}
use Rattle.lists.specs.Lists.{Every}

-- A box is the list of the rooms of positions 1 to v in turn.

-- the room of a position
unfoldable pub room_at : List ℕ → ℕ → ℕ
room_at box p = get_or box (p - 1) 0

-- the box with another room for a position
unfoldable pub with_room : List ℕ → ℕ → ℕ → List ℕ
with_room box p room = set box (p - 1) room

-- where no starting set says otherwise each of the v rooms is {1..n} at the start
unfoldable pub start_box : ℕ → ℕ → List ℕ
start_box v n = replicate v (full n)

-- the number of open values: the sum of the rooms' sizes
unfoldable pub open_values : List ℕ → ℕ
open_values [] = 0
open_values (room ∷ box) = count room + open_values box

-- the values that the rooms may still lose, each down to its last one: the sum over positions of the room's size less one
unfoldable pub spare_values : List ℕ → ℕ
spare_values [] = 0
spare_values (room ∷ box) = (count room - 1) + spare_values box

-- the number of assignments in a box: the product of the rooms' sizes
unfoldable pub box_size : List ℕ → ℕ
box_size [] = 1
box_size (room ∷ box) = count room * box_size box

-- the assignment lies in the box: each value in its position's room
abbrev pub InBox : List ℕ → List ℕ → Type 0
InBox [] [] = Unit {0}
InBox [] (room ∷ box) = ⊥
InBox (x ∷ a) [] = ⊥
InBox (x ∷ a) (room ∷ box) = IsMember x room × InBox a box

-- each room of the one box lies inside the room of the other
abbrev pub BoxInside : List ℕ → List ℕ → Type 0
BoxInside [] [] = Unit {0}
BoxInside [] (s ∷ b) = ⊥
BoxInside (r ∷ a) [] = ⊥
BoxInside (r ∷ a) (s ∷ b) = T (inside r s) × BoxInside a b

-- rooms as they are before and after every step: masks of 32 values, none of them empty
abbrev pub Rooms : List ℕ → Type 0
Rooms box = Every (λ room. (room < 2 ^ 32) × (room ≡ 0 → ⊥)) box

-- whether the room at an index has two or more values
abbrev pub wide : List ℕ → ℕ → Bool
wide box i = leb 2 (count (get_or box i 0))

-- the smallest value of each room
unfoldable pub smallest_of : List ℕ → List ℕ
smallest_of box = map smallest box

-- the first half of a box at the room with an index: its smallest value alone
unfoldable pub first_half : ℕ → List ℕ → List ℕ
first_half i box = set box i (single (smallest (get_or box i 0)))

-- the other half: the other values of that room
unfoldable pub other_half : ℕ → List ℕ → List ℕ
other_half i box = set box i (others (get_or box i 0))
