-- Steps 3 and 4 of the search: dead ends, plans, splits. Step 4 is that of 02 (R-2). Assumes nothing.
use Rattle.std.specs.Prelude.{ℕ, zero, suc, ◌+◌, Bool, true, false, ◌&&◌, List, eqb, leb, length}
use Rattle.lists.specs.Lowest.{lowest}
use Rattle.rules.specs.Rules.{Field}
use Rattle.steps.specs.Boxes.{open_values, wide, smallest_of, first_half, other_half}
use Rattle.steps.specs.Shrinking.{Look, if_alive, if_test, shrunk, settled, live_in_fields}
use Rattle.steps.specs.Reply.{Reply, plan, none, undecided}

-- whether step 4 may split the room at an index: it has two or more values, and its position is live in some part that is not settled
unfoldable pub splittable : List Field → List ℕ → ℕ → Bool
splittable fields box i = wide box i && live_in_fields fields box (i + 1)

-- the lowest index that step 4 may split, and the number of rooms where there is none
unfoldable pub chosen : List Field → List ℕ → ℕ
chosen fields box = lowest (splittable fields box) (length box)

-- after NONE the search goes on with its counts; any other reply stays
abbrev pub if_none : Reply → (ℕ → ℕ → Reply) → Reply
if_none first later = elim (eqb first.number 1) [ true ↦ later first.splits first.dead_ends | false ↦ first ]

-- Steps 2 to 4 for what shrinking a box has found, with the splits and the dead ends so far. `spent` says of the splits whether the allowance is used up; `again`
-- searches the halves.
abbrev pub after_shrinking : List Field → (ℕ → Bool) → Look → ℕ → ℕ → (List ℕ → ℕ → ℕ → Reply) → Reply
after_shrinking fields spent found s d again =
    if_alive found (λ place. none place s (d + 1)) λ inner.
    if_test (settled fields inner) (plan (smallest_of inner) s d) λ _.
    if_test (spent s) (undecided s d) λ _.
    if_none (again (first_half (chosen fields inner) inner) (s + 1) d) λ s' d'.
    again (other_half (chosen fields inner) inner) s' d'

-- one turn: the box is shrunk, and then steps 2 to 4
abbrev pub turn : List Field → (ℕ → Bool) → List ℕ → ℕ → ℕ → (List ℕ → ℕ → ℕ → Reply) → Reply
turn fields spent box s d again = after_shrinking fields spent (shrunk fields box) s d again

-- The search of a box: turn by turn. The number bounds how deep it goes, and `deeper` is what it answers where that is not enough.
unfoldable pub search : (List ℕ → ℕ → ℕ → Reply) → ℕ → List Field → (ℕ → Bool) → List ℕ → ℕ → ℕ → Reply
search deeper zero fields spent box s d = deeper box s d
search deeper (suc k) fields spent box s d = turn fields spent box s d (search deeper k fields spent)

-- ---- the whole search: the number of open values falls at each turn, so one more than those is deep enough

-- what the whole search answers any deeper: it never comes there, so any other answer would do as well (`depth-never_matters`)
abbrev pub nowhere : List ℕ → ℕ → ℕ → Reply
nowhere box s d = undecided s d

-- with an allowance
unfoldable pub searched : List Field → ℕ → List ℕ → ℕ → ℕ → Reply
searched fields allowed box s d = search nowhere (suc (open_values box)) fields (leb allowed) box s d

-- an allowance that is never used up
abbrev pub never : ℕ → Bool
never s = false

-- without an allowance: what it gives, and the splits that it needs
unfoldable pub explored : List Field → List ℕ → Reply
explored fields box = search nowhere (suc (open_values box)) fields never box 0 0
