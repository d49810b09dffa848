-- The whole output for case e, which 01 gives, and for four inputs more, with what is said on standard error: whatever the promise of `answer` allows is that.
-- Assumes nothing.
use mathlib.Core.Path.{◌≡◌, refl, sym, ap}
use mathlib.Core.List.{List, [], ◌++◌}
use Prim.Native.Nat.{ℕ, ◌<◌}
use Prim.Native.String.{String}
use native.Mathlib.Omega.{arith}
use lib.ListN.{length, take, drop, replicate}
use Rattle.sets.specs.Sets.{full, single, union, common, complement, in_range, only_if, is_empty, inside, listed_if, values_from, values, count, first_of, smallest, beside, others}
use Rattle.lists.specs.Lowest.{lowest}
use Rattle.lists.specs.Lists.{Every}
use Rattle.rules.specs.Writing.{two_bytes, four_bytes, written_atoms, framed, content_bytes, written_rule, placed, fields_of}
use Rattle.rules.specs.Reading.{tag_of, length_at, set_at, atom_of, head_of, content_of, atoms_of, rule_of, length_fits, tag_fault, body_fault, header_body_fault, position_fault, set_fault, atom_fault, atoms_fault, positions_fault, rule_fault, rule_at, field_fault, limits_fit, header_fault, size_of, seen_with, again_fault, fault_after, read_fields, reading}
use Rattle.rules.specs.Parts.{atom_in, equality_parts, parts_of}
use Rattle.steps.specs.Boxes.{room_at, with_room, start_box, open_values, smallest_of, first_half, other_half}
use Rattle.steps.specs.Shrinking.{unite_if, united, is_live, live_from, cut, look_by, look_clause, settled_by, settled_clause, in_turn, same_rooms, shrink, shrunk, all_of, some_of}
use Rattle.steps.specs.Rounds.{count_rounds, rounds_of}
use Rattle.steps.specs.Search.{splittable, chosen, search, searched}
use Rattle.steps.specs.Start.{start_by, starts_by, start_of}
use Rattle.steps.specs.Table.{planned, of_reading, reply_of}
use Rattle.steps.specs.Reply.{Reply, refusal}
use Rattle.steps.specs.Cases.{case, case_c, case_d, case_e, case_g}
use Rattle.searching.specs.Answered.{told}
use Rattle.planner.proofs.PromiseLaws.{promise-kept}
use Rattle.texts.specs.Bytes.{bytes_of, digits, decimal, behind, spaced, newline}
use Rattle.texts.specs.Grown.{line_of}
use Rattle.reasons.specs.Words.{faults, fault_of, place_of, words_of, unmet_of, reason_of}
use Rattle.lines.specs.declared.answer.Output.{Output}
use Rattle.lines.specs.Text.{first_line, none_line, text_of}
use Rattle.lines.specs.Printed.{Printed, positions_of}
use Rattle.lines.proofs.Unique.{answer_unique}

-- these words on standard output and these on standard error
abbrev output_of : String → String → Output
output_of line words = record { printed = line_of (bytes_of line); said = line_of (bytes_of words) }

-- the promise of `answer` allows this output for the input, and no other
abbrev pub Prints : List ℕ → String → String → Type 0
Prints input line words = Printed input (output_of line words) × ((output : Output) → Printed input output → output ≡ output_of line words)

-- 64 zeros with the values of a reply in front
abbrev left : Reply → List ℕ
left given = given.values ++ drop (length given.values) (replicate 64 0)

-- a reply of 01's table, its text and its words
prints : (input : List ℕ) (given : Reply) (line words : String) → Every (λ b. b < 256) input → reply_of input 64 100000 ≡ given
    → text_of (told given) (take (positions_of (reading input)) (left given)) ≡ bytes_of line → reason_of given.number given.place ≡ bytes_of words → Prints input line words
prints input given line words bytes e shown reason =
    let here : Printed input (output_of line words) = record {
      reply = told given;
      after = left given;
      planned = promise-kept input (replicate 64 0) (left given) 100000 (told given) bytes (record { reply = ap told (sym e); memory = ap left (sym e) });
      printed = ap line_of (sym shown);
      said = ap line_of (sym reason);
    } in
    (here, λ output p. answer_unique input p here)

-- cases e (01's own whole output), c (v and n differ) and g; d, in which the field at 5 cannot be met; and the empty input
pub printed-cases :
    Prints case_e.bytes "PLAN 1 0\n1 2\n" "" × Prints case_c.bytes "PLAN 0 0\n1 1\n" "" × Prints case_g.bytes "NONE 1 2\n" ""
    × Prints case_d.bytes "NONE 0 1 5\n" "the field at byte 5 cannot be met by what the rules leave open\n"
    × Prints [] "REFUSED 14 0\n" "the input is empty, or its first tag is not 1 (header)\n"
unfolding full single union common complement in_range only_if is_empty inside listed_if values_from values count first_of smallest beside others tag_of length_at set_at atom_of head_of content_of atoms_of rule_of length_fits tag_fault body_fault header_body_fault position_fault set_fault atom_fault atoms_fault positions_fault rule_fault rule_at field_fault limits_fit header_fault size_of seen_with again_fault fault_after read_fields reading two_bytes four_bytes written_atoms framed content_bytes written_rule placed fields_of atom_in equality_parts parts_of room_at with_room start_box open_values smallest_of first_half other_half unite_if united is_live live_from cut look_by look_clause settled_by settled_clause in_turn same_rooms shrink shrunk count_rounds rounds_of all_of some_of lowest splittable chosen search searched start_by starts_by start_of planned of_reading reply_of case case_c case_d case_e case_g bytes_of digits decimal behind spaced newline first_line none_line text_of positions_of faults fault_of place_of words_of unmet_of reason_of
printed-cases = (
  prints case_e.bytes case_e.reply "PLAN 1 0\n1 2\n" "" (omega arith) refl refl refl,
  prints case_c.bytes case_c.reply "PLAN 0 0\n1 1\n" "" (omega arith) refl refl refl,
  prints case_g.bytes case_g.reply "NONE 1 2\n" "" (omega arith) refl refl refl,
  prints case_d.bytes case_d.reply "NONE 0 1 5\n" "the field at byte 5 cannot be met by what the rules leave open\n" (omega arith) refl refl refl,
  prints [] (refusal 14 0) "REFUSED 14 0\n" "the input is empty, or its first tag is not 1 (header)\n" tt refl refl refl,
)
