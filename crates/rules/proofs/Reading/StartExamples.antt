-- Starting sets by example: where a field of tag 4 is read, and each of its refusals, in their order: 17, 19, 20, 26, 27. Assumes nothing.
use mathlib.Core.Path.{◌≡◌, refl}
use mathlib.Core.List.{List, [], ◌∷◌, ◌++◌}
use Prim.Native.Nat.{ℕ}
use Rattle.sets.specs.Sets.{digit, is_member, in_range, only_if, full, union, common, inside, is_empty}
use Rattle.rules.specs.Rules.{clause, equality, starting}
use Rattle.rules.specs.UpTo.{fields_up_to, fields_behind, only_starts, up_to}
use Rattle.rules.specs.Writing.{two_bytes, four_bytes, written_atoms, framed, tag_byte, content_bytes, written_rule, placed, fields_of}
use Rattle.rules.specs.Reading.{tag_of, length_at, set_at, atom_of, head_of, content_of, atoms_of, rule_of, length_fits, tag_fault, body_fault, header_body_fault, position_fault, set_fault, atom_fault, atoms_fault, empty_fault, rule_fault, rule_at, field_fault, with_position, seen_with, again_fault, fault_after, limits_fit, header_fault, sound, refused, size_of, read_fields, reading}

-- v 2, and so many values
abbrev header : ℕ → List ℕ
header n = 1 ∷ 0 ∷ 2 ∷ 2 ∷ n ∷ []

-- a starting set: its position, and the last byte of the set
abbrev start : ℕ → ℕ → List ℕ
start p low = 4 ∷ 0 ∷ 5 ∷ p ∷ 0 ∷ 0 ∷ 0 ∷ low ∷ []

-- "1 in {1}", and behind it the starting set {2, 3} of position 1
pub start-read : reading (header 3 ++ (2 ∷ 0 ∷ 5 ∷ 1 ∷ 0 ∷ 0 ∷ 0 ∷ 1 ∷ []) ++ start 1 6)
    ≡ sound (record { v = 2; n = 3; rules = clause (record { position = 1; set = 1 } ∷ []) ∷ starting (record { position = 1; set = 6 }) ∷ [] })
unfolding reading header_fault header_body_fault limits_fit read_fields size_of fault_after again_fault seen_with with_position field_fault body_fault rule_at rule_of rule_fault atoms_fault atom_fault set_fault position_fault empty_fault tag_fault length_fits atoms_of content_of head_of atom_of set_at length_at tag_of full inside in_range only_if common union is_empty is_member digit
start-read = refl

-- two positions have a starting set each; of a second one for position 1: a value above n, then no value at all, then that it is the second, whatever it is
pub starts-refused :
    (reading (header 2 ++ start 1 1 ++ start 2 1) ≡ sound (record { v = 2; n = 2; rules = starting (record { position = 1; set = 1 }) ∷ starting (record { position = 2; set = 1 }) ∷ [] }))
    × (reading (header 2 ++ start 1 1 ++ start 1 4) ≡ refused 20 13)
    × (reading (header 2 ++ start 1 1 ++ start 1 0) ≡ refused 26 13)
    × (reading (header 2 ++ start 1 1 ++ start 1 1) ≡ refused 27 13)
    × (reading (header 2 ++ start 1 1 ++ start 1 2) ≡ refused 27 13)
unfolding reading header_fault header_body_fault limits_fit read_fields size_of fault_after again_fault seen_with with_position field_fault body_fault rule_at rule_of rule_fault atom_fault set_fault position_fault empty_fault tag_fault length_fits content_of head_of atom_of set_at length_at tag_of full inside in_range only_if common union is_empty is_member digit
starts-refused = (refl, refl, refl, refl, refl)

-- a position above v before a value above n, and another length before either
pub start-refused : (reading (header 2 ++ start 3 4) ≡ refused 19 5) × (reading (header 2 ++ (4 ∷ 0 ∷ 6 ∷ 3 ∷ 0 ∷ 0 ∷ 0 ∷ 4 ∷ 0 ∷ [])) ≡ refused 17 5)
unfolding reading header_fault header_body_fault limits_fit read_fields size_of fault_after again_fault field_fault body_fault rule_at rule_of rule_fault atom_fault set_fault position_fault empty_fault tag_fault length_fits content_of head_of atom_of set_at length_at tag_of full inside in_range only_if common is_empty
start-refused = (refl, refl)

-- the rules up to the field at 5 are "1 in {1}" and the starting set behind it, which counts from the start; an equality that stands there is left out
pub start-kept : (up_to 5 (record { v = 2; n = 3; rules = clause (record { position = 1; set = 1 } ∷ []) ∷ starting (record { position = 1; set = 6 }) ∷ equality 1 (1 ∷ []) ∷ [] })).rules
    ≡ clause (record { position = 1; set = 1 } ∷ []) ∷ starting (record { position = 1; set = 6 }) ∷ []
unfolding fields_of placed written_rule framed tag_byte content_bytes written_atoms four_bytes two_bytes fields_up_to fields_behind only_starts up_to
start-kept = refl
