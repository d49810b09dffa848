-- Starting sets by example: where a search starts, how many assignments that leaves and how many rounds it can take; what is reached from there and what is not. Assumes nothing.
use mathlib.Core.Path.{◌≡◌, refl}
use mathlib.Core.List.{[], ◌∷◌}
use native.Mathlib.Omega.{arith}
use Rattle.sets.specs.Sets.{full, single, common, in_range, only_if, inside, listed_if, values_from, values, count, first_of, smallest}
use Rattle.rules.specs.Rules.{File, clause, starting}
use Rattle.steps.specs.Boxes.{with_room, start_box, spare_values, box_size, Rooms, first_half}
use Rattle.steps.specs.Reached.{Reached, begins, splits_first}
use Rattle.steps.specs.Rounds.{rounds_most}
use Rattle.steps.specs.Start.{start_by, starts_by, start_of}
use Rattle.steps.proofs.Start.StartLooks.{reached-inside}

-- v 3, n 4: "1 in {1}", and behind it position 3 starts at {1, 3}, and position 1 at {2, 4}
pub example_file : File
example_file = record {
  v = 3;
  n = 4;
  rules = clause (record { position = 1; set = 1 } ∷ []) ∷ starting (record { position = 3; set = 5 }) ∷ starting (record { position = 1; set = 10 }) ∷ [];
}

-- it starts there, wherever the fields stand, and position 2 at {1..4}; so there are 2 * 4 * 2 assignments and no 4 ^ 3, and at most 1 + 3 + 1 rounds and one
pub example_start : (start_of example_file ≡ 10 ∷ 15 ∷ 5 ∷ []) × (box_size (start_of example_file) ≡ 16) × (rounds_most (start_of example_file) ≡ 6)
unfolding example_file start_of starts_by start_by with_room start_box full in_range only_if box_size rounds_most spare_values count values values_from listed_if
example_start = (refl, refl, refl)

-- from these rooms its first half at position 2 is reached
pub example_reached : Reached (10 ∷ 15 ∷ 5 ∷ []) (10 ∷ 1 ∷ 5 ∷ [])
unfolding first_half single smallest first_of in_range only_if count values values_from listed_if
example_reached = splits_first 1 begins (omega arith) (omega arith)

-- and no box in which position 1 has the value 1, which is not in its starting set
pub example-not_reached : Reached (10 ∷ 15 ∷ 5 ∷ []) (1 ∷ 15 ∷ 5 ∷ []) → ⊥
unfolding inside common
example-not_reached on = (reached-inside rooms on).0.0
  where
    rooms : Rooms (10 ∷ 15 ∷ 5 ∷ [])
    rooms = ((omega arith, λ e. omega arith), ((omega arith, λ e. omega arith), ((omega arith, λ e. omega arith), tt)))
