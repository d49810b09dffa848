-- The rounds of a box by example: R-10's case at the bound, round by round, and the round that finds a dead field. Assumes nothing.
use mathlib.Core.Path.{◌≡◌, refl, ap}
use mathlib.Core.List.{List, [], ◌∷◌}
use Prim.Native.Nat.{ℕ}
use native.Mathlib.Omega.{arith}
use lib.ListN.{get_or}
use Rattle.sets.specs.Sets.{full, union, common, in_range, only_if, is_empty, inside, listed_if, values_from, values, count}
use Rattle.rules.specs.Rules.{File}
use Rattle.rules.specs.Writing.{two_bytes, four_bytes, written_atoms, framed, content_bytes, written_rule, placed, fields_of}
use Rattle.rules.specs.Reading.{tag_of, length_at, set_at, atom_of, head_of, content_of, atoms_of, rule_of, length_fits, tag_fault, body_fault, header_body_fault, position_fault, set_fault, atom_fault, atoms_fault, positions_fault, rule_fault, rule_at, field_fault, limits_fit, header_fault, size_of, seen_with, again_fault, fault_after, read_fields, reading}
use Rattle.rules.specs.Sound.{file_of}
use Rattle.rules.specs.Parts.{parts_of}
use Rattle.steps.specs.Boxes.{room_at, with_room, start_box, spare_values}
use Rattle.steps.specs.Shrinking.{dead, alive, unite_if, united, is_live, live_from, cut, look_by, look_clause, in_turn}
use Rattle.steps.specs.Rounds.{died, rested, went, TakesRounds, rounds_most}
use Rattle.steps.specs.Start.{start_by, starts_by, start_of}
use Rattle.steps.specs.Table.{most_of, most_rounds}
use Rattle.steps.specs.Cases.{Case, case, case_second_round, case_at_the_bound, case_refused}
use Rattle.steps.proofs.Looks.ShrinkLaws.{rounds_once}

-- the file of a case
abbrev file_in : Case → File
file_in c = file_of (reading c.bytes)

-- shrinking its first box takes so many rounds
abbrev Takes : Case → ℕ → Type 0
Takes c k = TakesRounds (fields_of (file_in c)) (start_of (file_in c)) k

-- two boxes whose rooms differ at an index are two
apart : (i : ℕ) {b c : List ℕ} → (get_or b i 0 ≡ get_or c i 0 → ⊥) → b ≡ c → ⊥
apart i differ e = differ (ap (λ (box : List ℕ). get_or box i 0) e)

-- three rounds take a value away, each in another room, and the fourth changes nothing
pub bound_taken : Takes case_at_the_bound 4
unfolding full union common in_range only_if is_empty inside tag_of length_at set_at atom_of head_of content_of atoms_of rule_of length_fits tag_fault body_fault header_body_fault position_fault set_fault atom_fault atoms_fault positions_fault rule_fault rule_at field_fault limits_fit header_fault size_of seen_with again_fault fault_after read_fields reading file_of two_bytes four_bytes written_atoms framed content_bytes written_rule placed fields_of parts_of room_at with_room start_box unite_if united is_live live_from cut look_by look_clause in_turn start_by starts_by start_of case case_at_the_bound
bound_taken = (
  alive (2 ∷ 2 ∷ 2 ∷ []),
  went {box = 3 ∷ 3 ∷ 3 ∷ []} {box' = 2 ∷ 3 ∷ 3 ∷ []} refl (apart 0 (λ e. omega (arith, e)))
      (went {box = 2 ∷ 3 ∷ 3 ∷ []} {box' = 2 ∷ 2 ∷ 3 ∷ []} refl (apart 1 (λ e. omega (arith, e)))
      (went {box = 2 ∷ 2 ∷ 3 ∷ []} {box' = 2 ∷ 2 ∷ 2 ∷ []} refl (apart 2 (λ e. omega (arith, e))) (rested refl refl))),
)

-- so it is not 3, the rounds that change something
pub bound_only : (k : ℕ) → Takes case_at_the_bound k → k ≡ 4
bound_only k taken = (rounds_once _ taken.1 bound_taken.1).1

-- the first round cuts both rooms, and the second finds the field at 5 dead, and counts
pub dead_taken : Takes case_second_round 2
unfolding full union common in_range only_if is_empty inside tag_of length_at set_at atom_of head_of content_of atoms_of rule_of length_fits tag_fault body_fault header_body_fault position_fault set_fault atom_fault atoms_fault positions_fault rule_fault rule_at field_fault limits_fit header_fault size_of seen_with again_fault fault_after read_fields reading file_of two_bytes four_bytes written_atoms framed content_bytes written_rule placed fields_of parts_of room_at with_room start_box unite_if united is_live live_from cut look_by look_clause in_turn start_by starts_by start_of case case_second_round
dead_taken = (dead 5, went {box = 3 ∷ 3 ∷ []} {box' = 1 ∷ 2 ∷ []} refl (apart 0 (λ e. omega (arith, e))) (died 5 refl refl))

pub dead_only : (k : ℕ) → Takes case_second_round k → k ≡ 2
dead_only k taken = (rounds_once _ taken.1 dead_taken.1).1

-- the most rounds by the bytes alone: of the file at the bound, of a file that is refused, and of one that is too long
pub most_known : (most_rounds case_at_the_bound.bytes ≡ 4) × (most_rounds case_refused.bytes ≡ 0)
unfolding full union common in_range only_if is_empty inside tag_of length_at set_at atom_of head_of content_of atoms_of rule_of length_fits tag_fault body_fault header_body_fault position_fault set_fault atom_fault atoms_fault positions_fault rule_fault rule_at field_fault limits_fit header_fault size_of seen_with again_fault fault_after read_fields reading file_of two_bytes four_bytes written_atoms framed content_bytes written_rule placed fields_of parts_of room_at with_room start_box unite_if united is_live live_from cut look_by look_clause in_turn start_by starts_by start_of case case_at_the_bound case_refused listed_if values_from values count spare_values rounds_most most_of most_rounds
most_known = (refl, refl)
