-- 01's case l by step 4 as it was before R-2: NONE, 3 splits and 4 dead ends, where step 4 of R-2 takes 1 and 2 (`starred_hold`). Assumes nothing.
use mathlib.Core.Path.{◌≡◌, refl}
use mathlib.Core.List.{List}
use Prim.Native.Nat.{ℕ}
use Rattle.sets.specs.Sets.{full, single, union, common, complement, in_range, only_if, is_empty, inside, listed_if, values_from, values, count, first_of, smallest, beside, others}
use Rattle.lists.specs.Lowest.{lowest}
use Rattle.rules.specs.Writing.{placed, fields_of}
use Rattle.rules.specs.Reading.{tag_of, length_at, set_at, atom_of, head_of, content_of, atoms_of, rule_of, length_fits, tag_fault, body_fault, header_body_fault, position_fault, set_fault, atom_fault, atoms_fault, positions_fault, rule_fault, rule_at, field_fault, limits_fit, header_fault, size_of, seen_with, again_fault, fault_after, read_fields, reading}
use Rattle.rules.specs.Sound.{file_of}
use Rattle.rules.specs.Parts.{parts_of}
use Rattle.steps.specs.Boxes.{room_at, with_room, start_box, open_values, smallest_of, first_half, other_half}
use Rattle.steps.specs.Shrinking.{unite_if, united, is_live, live_from, cut, look_by, look_clause, settled_by, settled_clause, in_turn, same_rooms, shrink, shrunk, all_of}
use Rattle.steps.specs.Reply.{Reply, none}
use Rattle.steps.specs.OldStep.{lowest_wide, explore_wide, explored_wide}
use Rattle.steps.specs.Start.{start_by, starts_by, start_of}
use Rattle.steps.specs.Cases.{case, case_l}

-- the same hopeless search for each value of position 1, which no rule names
pub case_l_before : (deeper : List ℕ → ℕ → ℕ → Reply) → explored_wide deeper (fields_of (file_of (reading case_l.bytes))) (start_of (file_of (reading case_l.bytes))) ≡ none 0 3 4
unfolding full single union common complement in_range only_if is_empty inside listed_if values_from values count first_of smallest beside others tag_of length_at set_at atom_of head_of content_of atoms_of rule_of length_fits tag_fault body_fault header_body_fault position_fault set_fault atom_fault atoms_fault positions_fault rule_fault rule_at field_fault limits_fit header_fault size_of seen_with again_fault fault_after read_fields reading file_of placed fields_of parts_of room_at with_room start_box open_values smallest_of first_half other_half unite_if united is_live live_from cut look_by look_clause settled_by settled_clause in_turn same_rooms shrink shrunk all_of lowest lowest_wide explore_wide explored_wide start_by starts_by start_of case case_l
case_l_before deeper = refl
