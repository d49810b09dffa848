-- The rounds of a box (R-10): the number that is counted is that of the rounds, and the only one (`rounds_taken`, `rounds_only`); it is at least one, and at most the
-- sum over positions of size less one, plus one (`rounds-least`, `rounds-bound`). What shrinking comes to, and in how many rounds, goes by the first round: `round_dies`,
-- `round_rests`, `round_goes`. Assumes nothing.
use mathlib.Core.Path.{◌≡◌, refl}
use mathlib.Core.List.{List}
use Prim.Native.Nat.{ℕ, suc, ◌+◌, ◌≤◌}
use native.Mathlib.Omega.{arith}
use Rattle.rules.specs.Rules.{Field}
use Rattle.steps.specs.Boxes.{spare_values, Rooms}
use Rattle.steps.specs.Shrinking.{Look, dead, alive, round, shrunk}
use Rattle.steps.specs.Rounds.{Rounds, died, rested, went, TakesRounds, rounds_of, rounds_most}
use Rattle.steps.proofs.Boxes.BoxSizes.{spare_falls}
use Rattle.steps.proofs.Looks.ShrinkLaws.{round-inside, rounds_once, shrunk-rounds}

module _ (fields : List Field) where
  -- every round but the last takes a value away, and one stays in each room
  rounds-few : {l : Look} {k : ℕ} {box : List ℕ} → Rounds fields l k box → Rooms box → (1 ≤ k) × (k ≤ spare_values box + 1)
  rounds-few (died p r e) rooms = omega arith
  rounds-few (rested r e) rooms = omega arith
  rounds-few (went {box} {box'} r ne more) rooms =
      let i = round-inside fields box box' rooms r in
      omega (arith, rounds-few more i.1, spare_falls box' box i.1 rooms i.0 ne)

  module _ (box : List ℕ) (rooms : Rooms box) where
    -- shrinking takes as many rounds as are counted
    pub rounds_taken : TakesRounds fields box (rounds_of fields box)
    rounds_taken = (shrunk fields box, shrunk-rounds fields box rooms)

    -- and no other number
    pub rounds_only : (k : ℕ) → TakesRounds fields box k → k ≡ rounds_of fields box
    rounds_only k taken = (rounds_once fields taken.1 (shrunk-rounds fields box rooms)).1

    -- one at least
    pub rounds-least : 1 ≤ rounds_of fields box
    rounds-least = (rounds-few (shrunk-rounds fields box rooms) rooms).0

    -- the sum over positions of size less one, plus one, at most
    pub rounds-bound : rounds_of fields box ≤ rounds_most box
    unfolding rounds_most
    rounds-bound = (rounds-few (shrunk-rounds fields box rooms) rooms).1

    -- ---- by the first round

    -- rounds that come to l come to what shrinking does, and are those that are counted
    by-rounds : {l : Look} {k : ℕ} → Rounds fields l k box → (shrunk fields box ≡ l) × (rounds_of fields box ≡ k)
    by-rounds = rounds_once fields (shrunk-rounds fields box rooms)

    -- where it finds a dead field, so does shrinking, in one round
    pub round_dies : (place : ℕ) → round fields box ≡ dead place → (shrunk fields box ≡ dead place) × (rounds_of fields box ≡ 1)
    round_dies place e = by-rounds (died place e refl)

    -- where it changes nothing, nor does shrinking, in one round
    pub round_rests : round fields box ≡ alive box → (shrunk fields box ≡ alive box) × (rounds_of fields box ≡ 1)
    round_rests e = by-rounds (rested e refl)

    -- else shrinking goes on with what it left, and takes one round more than that
    pub round_goes : (b : List ℕ) → round fields box ≡ alive b → (b ≡ box → ⊥) → (shrunk fields box ≡ shrunk fields b) × (rounds_of fields box ≡ suc (rounds_of fields b))
    round_goes b e ne = by-rounds (went e ne (shrunk-rounds fields b (round-inside fields box b rooms e).1))
