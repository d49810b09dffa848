-- The field first found dead by example: R-3's two cases, by computation. Assumes nothing.
use mathlib.Core.Path.{◌≡◌, refl}
use mathlib.Core.Logic.{inl}
use mathlib.Core.List.{[], ◌∷◌}
use Prim.Native.Nat.{ℕ}
use native.Mathlib.Omega.{arith}
use Rattle.sets.specs.Sets.{digit, is_member, full, union, common, in_range, only_if, is_empty, inside}
use Rattle.rules.specs.Rules.{File}
use Rattle.rules.specs.Meaning.{Plan}
use Rattle.rules.specs.Writing.{two_bytes, four_bytes, written_atoms, framed, content_bytes, written_rule, placed, fields_of}
use Rattle.rules.specs.Reading.{tag_of, length_at, set_at, atom_of, head_of, content_of, atoms_of, rule_of, length_fits, tag_fault, body_fault, header_body_fault, position_fault, set_fault, atom_fault, atoms_fault, positions_fault, rule_fault, rule_at, field_fault, limits_fit, header_fault, size_of, seen_with, again_fault, fault_after, read_fields, reading}
use Rattle.rules.specs.Sound.{file_of}
use Rattle.rules.specs.Parts.{parts_of}
use Rattle.rules.specs.UpTo.{fields_up_to, fields_behind, only_starts, up_to}
use Rattle.steps.specs.Boxes.{room_at, with_room, start_box}
use Rattle.steps.specs.Shrinking.{alive, round, unite_if, united, is_live, live_from, cut, look_by, look_clause, in_turn}
use Rattle.steps.specs.FirstDead.{over_and_over, FirstDead}
use Rattle.steps.specs.Start.{start_by, starts_by, start_of}
use Rattle.steps.specs.Cases.{Case, case, case_first_round, case_second_round}
use Rattle.steps.proofs.Looks.DeadField.{first-dead_once}

-- the file of a case
abbrev file_in : Case → File
file_in c = file_of (reading c.bytes)

-- a field of it is first found dead at a place
abbrev pub Unmet : Case → ℕ → Type 0
Unmet c place = FirstDead (fields_of (file_in c)) (start_of (file_in c)) place

-- the first case: gone through once, 34; and no other place, as 5 or 26
pub first-round-unmet : Unmet case_first_round 34
unfolding full union common in_range only_if is_empty inside tag_of length_at set_at atom_of head_of content_of atoms_of rule_of length_fits tag_fault body_fault header_body_fault position_fault set_fault atom_fault atoms_fault positions_fault rule_fault rule_at field_fault limits_fit header_fault size_of seen_with again_fault fault_after read_fields reading file_of two_bytes four_bytes written_atoms framed content_bytes written_rule placed fields_of parts_of room_at with_room start_box unite_if united is_live live_from cut look_by look_clause in_turn over_and_over start_by starts_by start_of case case_first_round case_second_round
first-round-unmet = (1, refl)

pub first-round_only : (place : ℕ) → Unmet case_first_round place → place ≡ 34
first-round_only place h = first-dead_once _ _ place 34 h first-round-unmet

-- the second: gone through once nothing is dead, with both rooms cut; gone through twice, 5
pub second-round-unmet : (round (fields_of (file_in case_second_round)) (start_of (file_in case_second_round)) ≡ alive (1 ∷ 2 ∷ [])) × Unmet case_second_round 5
unfolding full union common in_range only_if is_empty inside tag_of length_at set_at atom_of head_of content_of atoms_of rule_of length_fits tag_fault body_fault header_body_fault position_fault set_fault atom_fault atoms_fault positions_fault rule_fault rule_at field_fault limits_fit header_fault size_of seen_with again_fault fault_after read_fields reading file_of two_bytes four_bytes written_atoms framed content_bytes written_rule placed fields_of parts_of room_at with_room start_box unite_if united is_live live_from cut look_by look_clause in_turn over_and_over start_by starts_by start_of case case_first_round case_second_round
second-round-unmet = (refl, (2, refl))

-- there the rules up to the field at 5 alone do have a plan: "where the first round finds it dead" is needed
pub second-round-plan : Plan (up_to 5 (file_in case_second_round)) (2 ∷ 1 ∷ [])
unfolding full union common in_range only_if is_empty inside tag_of length_at set_at atom_of head_of content_of atoms_of rule_of length_fits tag_fault body_fault header_body_fault position_fault set_fault atom_fault atoms_fault positions_fault rule_fault rule_at field_fault limits_fit header_fault size_of seen_with again_fault fault_after read_fields reading file_of two_bytes four_bytes written_atoms framed content_bytes written_rule placed fields_of parts_of room_at with_room start_box unite_if united is_live live_from cut look_by look_clause in_turn over_and_over start_by starts_by start_of case case_first_round case_second_round fields_up_to fields_behind only_starts up_to digit is_member
second-round-plan = ((refl, omega arith), (inl tt, tt))
