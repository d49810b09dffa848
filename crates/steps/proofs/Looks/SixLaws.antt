-- What the six laws say of anything that is looked at: a clause, a part, a rule, the fields of a file. Assumes nothing.
use mathlib.Core.Path.{◌≡◌}
use mathlib.Core.Logic.{◌↔◌}
use mathlib.Core.Bool.{Bool, false}
use mathlib.Core.List.{List}
use Prim.Native.Nat.{ℕ, ◌≤◌}
use lib.Dec.{T}
use lib.ListN.{length}
use Rattle.sets.specs.Sets.{count}
use Rattle.rules.specs.Meaning.{value_at}
use Rattle.steps.specs.Boxes.{room_at, InBox, BoxInside, Rooms}
use Rattle.steps.specs.Shrinking.{Look, dead, alive}

-- Fits v: it is made for v positions. Met a: the assignment a meets it. Live box p: the position p of the box is live in it.
-- look: the look at it. done: whether it is settled.

-- sound: an assignment of the box that meets it is still in the box after the look, which is not dead
abbrev pub Sound : (ℕ → Type 0) → (List ℕ → Type 0) → (List ℕ → Look) → Type 0
Sound Fits Met look =
    (box a : List ℕ) → Rooms box → Fits (length box) → InBox a box → Met a → (box' : List ℕ) × (look box ≡ alive box') × InBox a box'

-- inside: the box after the look lies inside the box before, and no room becomes empty
abbrev pub Inward : (List ℕ → Look) → Type 0
Inward look = (box box' : List ℕ) → Rooms box → look box ≡ alive box' → BoxInside box' box × Rooms box'

-- settled: every assignment of a box in which it is settled meets it
abbrev pub Settling : (ℕ → Type 0) → (List ℕ → Type 0) → (List ℕ → Bool) → Type 0
Settling Fits Met done = (box a : List ℕ) → Fits (length box) → T (done box) → InBox a box → Met a

-- steady: where the look changes nothing and it is not settled, a live position has two or more values
abbrev pub Steady : (ℕ → Type 0) → (List ℕ → ℕ → Type 0) → (List ℕ → Look) → (List ℕ → Bool) → Type 0
Steady Fits Live look done =
    (box : List ℕ) → Rooms box → Fits (length box) → look box ≡ alive box → done box ≡ false
    → (p : ℕ) × Live box p × (1 ≤ p) × (p ≤ length box) × (2 ≤ count (room_at box p))

-- monotone: a smaller box gives a smaller result, and where the larger is dead so is the smaller
abbrev pub Monotone : (List ℕ → Look) → Type 0
Monotone look = (b c b' : List ℕ) → Rooms b → Rooms c → BoxInside b c → look b ≡ alive b' → (c' : List ℕ) × (look c ≡ alive c') × BoxInside b' c'

-- not live: two assignments of the box that agree at every live position both meet it or both do not
abbrev pub NotLive : (ℕ → Type 0) → (List ℕ → Type 0) → (List ℕ → ℕ → Type 0) → Type 0
NotLive Fits Met Live =
    (box a b : List ℕ) → Fits (length box) → InBox a box → InBox b box → ((p : ℕ) → Live box p → value_at a p ≡ value_at b p) → Met a ↔ Met b

-- and a dead look names the place that it was given
abbrev pub Names : ℕ → (List ℕ → Look) → Type 0
Names place look = (box : List ℕ) (p : ℕ) → look box ≡ dead p → p ≡ place
