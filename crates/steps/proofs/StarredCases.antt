-- 01's twelve starred cases, the two of R-3, the five of R-10, the four of R-6, the nine of R-12 and the five of R-14 hold, by computation: the bytes are read, searched and answered by the definitions. Assumes nothing.
use mathlib.Core.Path.{◌≡◌, refl}
use Rattle.sets.specs.Sets.{digit, is_member, full, single, union, common, complement, in_range, only_if, is_empty, inside, listed_if, values_from, values, count, first_of, smallest, beside, others}
use Rattle.lists.specs.Lists.{Every}
use Rattle.lists.specs.Lowest.{lowest}
use Rattle.lists.specs.Passing.{passing}
use Rattle.rules.specs.Writing.{two_bytes, four_bytes, written_atoms, framed, content_bytes, written_rule, placed, fields_of}
use Rattle.rules.specs.Reading.{tag_of, length_at, set_at, atom_of, head_of, content_of, atoms_of, rule_of, length_fits, tag_fault, body_fault, header_body_fault, position_fault, set_fault, atom_fault, atoms_fault, positions_fault, empty_fault, named, named_twice, twice_fault, rule_fault, rule_at, field_fault, limits_fit, header_fault, size_of, with_position, seen_with, again_fault, fault_after, read_fields, reading}
use Rattle.rules.specs.Parts.{atom_in, equality_parts, parts_of}
use Rattle.steps.specs.Boxes.{room_at, with_room, start_box, open_values, smallest_of, first_half, other_half}
use Rattle.steps.specs.Shrinking.{unite_if, united, is_live, live_from, cut, look_by, look_clause, settled_by, settled_clause, inside_count, meeting_count, cut_one, cut_others, look_at_most, settled_at_most, is_live_at_most, in_turn, same_rooms, shrink, shrunk, all_of, some_of}
use Rattle.steps.specs.Rounds.{count_rounds, rounds_of}
use Rattle.steps.specs.Search.{splittable, chosen, search, searched}
use Rattle.steps.specs.Start.{start_by, starts_by, start_of}
use Rattle.steps.specs.Table.{planned, of_reading, reply_of}
use Rattle.steps.specs.Cases.{Case, case, starred, case_a, case_b, case_c, case_d, case_e, case_f, case_g, case_h, case_i, case_j, case_k, case_l, unmet, case_first_round, case_second_round, in_rounds, case_no_rule, case_at_the_bound, case_undecided, case_first_box, case_refused, started, case_not_fitted, case_fitted, case_empty_start, case_second_start, at_mosts, case_two_buses, case_wide_inside, case_one_value_live, case_partly_inside, case_none_allowed, case_position_above, case_set_above, case_named_twice, case_twice_and_above, late, late_bytes, late_field, case_late_none, case_late_undecided, case_late_again, place_bytes, place_field, case_place_before, case_place_moved}

-- the reply of a case is the one that it names
abbrev pub Holds : Case → Type 0
Holds c = reply_of c.bytes 64 c.allowed ≡ c.reply

-- each of the twelve, of the two, of the five, of the four, of the nine and of the five that came last
pub starred_hold : Every Holds starred × Every Holds unmet × Every Holds in_rounds × Every Holds started × Every Holds at_mosts × Every Holds late
unfolding full single union common complement in_range only_if is_empty inside listed_if values_from values count first_of smallest beside others tag_of length_at set_at atom_of head_of content_of atoms_of rule_of length_fits tag_fault body_fault header_body_fault position_fault set_fault atom_fault atoms_fault positions_fault rule_fault rule_at field_fault limits_fit header_fault size_of seen_with again_fault fault_after read_fields reading two_bytes four_bytes written_atoms framed content_bytes written_rule placed fields_of atom_in equality_parts parts_of room_at with_room start_box open_values smallest_of first_half other_half unite_if united is_live live_from cut look_by look_clause settled_by settled_clause in_turn same_rooms shrink shrunk count_rounds rounds_of all_of some_of lowest splittable chosen search searched start_by starts_by start_of planned of_reading reply_of case starred case_a case_b case_c case_d case_e case_f case_g case_h case_i case_j case_k case_l unmet case_first_round case_second_round in_rounds case_no_rule case_at_the_bound case_undecided case_first_box case_refused started case_not_fitted case_fitted case_empty_start case_second_start digit is_member empty_fault with_position named named_twice twice_fault passing inside_count meeting_count cut_one cut_others look_at_most settled_at_most is_live_at_most at_mosts case_two_buses case_wide_inside case_one_value_live case_partly_inside case_none_allowed case_position_above case_set_above case_named_twice case_twice_and_above late late_bytes late_field case_late_none case_late_undecided case_late_again place_bytes place_field case_place_before case_place_moved
starred_hold = ((refl, (refl, (refl, (refl, (refl, (refl, (refl, (refl, (refl, (refl, (refl, (refl, tt)))))))))))), (refl, (refl, tt)), (refl, (refl, (refl, (refl, (refl, tt))))), (refl, (refl, (refl, (refl, tt)))), (refl, (refl, (refl, (refl, (refl, (refl, (refl, (refl, (refl, tt))))))))), (refl, (refl, (refl, (refl, (refl, tt))))))
