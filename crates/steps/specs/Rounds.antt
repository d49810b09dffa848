-- Request R-10 of document 02: how many rounds shrinking a box takes, and how many that are at most. Assumes nothing.
use Rattle.std.specs.Prelude.{ℕ, zero, suc, ◌+◌, ◌≡◌, List}
use Rattle.rules.specs.Rules.{Field}
use Rattle.steps.specs.Boxes.{open_values, spare_values}
use Rattle.steps.specs.Shrinking.{Look, dead, alive, if_alive, if_test, round, same_rooms}

-- Rounds from a box on, so many of them, that come to l: a round finds a dead field, and is the last; or it changes nothing, and is the last; or it changes
-- the box, and the rounds go on with what is left.
pub data Rounds (fields : List Field) (l : Look) : ℕ → List ℕ → Type 0 where
  died : {box : List ℕ} (p : ℕ) → round fields box ≡ dead p → l ≡ dead p → Rounds fields l 1 box
  rested : {box : List ℕ} → round fields box ≡ alive box → l ≡ alive box → Rounds fields l 1 box
  went : {box box' : List ℕ} {k : ℕ} → round fields box ≡ alive box' → (box' ≡ box → ⊥) → Rounds fields l k box' → Rounds fields l (suc k) box

-- shrinking this box takes so many rounds
abbrev pub TakesRounds : List Field → List ℕ → ℕ → Type 0
TakesRounds fields box k = (l : Look) × Rounds fields l k box

-- the same counted, round by round, by a function; each round but the last takes an open value away
unfoldable pub count_rounds : ℕ → List Field → List ℕ → ℕ
count_rounds zero fields box = 0
count_rounds (suc k) fields box = suc (if_alive (round fields box) (λ p. 0) λ box'. if_test (same_rooms box' box) 0 λ _. count_rounds k fields box')

-- the rounds of a box: no more than one for each open value, and one
unfoldable pub rounds_of : List Field → List ℕ → ℕ
rounds_of fields box = count_rounds (suc (open_values box)) fields box

-- the most rounds that a box may take, by its rooms alone: the sum over positions of size less one, plus one
unfoldable pub rounds_most : List ℕ → ℕ
rounds_most box = spare_values box + 1
