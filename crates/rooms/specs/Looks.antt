-- What a look leaves: its answer, and the rooms. Assumes nothing.
use Rattle.std.specs.Prelude.{ℕ, ◌≡◌, Bool, true, false, List}
use Rattle.steps.specs.Shrinking.{Look, dead, alive}
use Rattle.rooms.specs.Held.{Held}

-- after a look: where it is dead, the answer for its place; else the other answer, and the rooms of the box in front of the same rest
abbrev pub AfterLook : {R : Type 0} → (ℕ → R) → R → Look → R → Held → List ℕ → Type 0
AfterLook died lived (dead place) r after rest = r ≡ died place
AfterLook died lived (alive box) r after rest = (r ≡ lived) × (after ≡ record { box = box; rest = rest })

-- what a look at x leaves of the rooms, whatever the place of the field: false where it is dead, else true; and these rooms
pub record Leaves {A : Type 0} (look : ℕ → A → List ℕ → Look) (x : A) (before : Held) (r : Bool) (after : Held) : Type 0 where
  pub by : (place : ℕ) → AfterLook (λ _. false) true (look place x before.box) r after before.rest
