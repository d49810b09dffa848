-- At-most rules by example: where a field of tag 5 is read, each of its refusals in their order (17, 20, 19 of every position, 36), and values that meet one and values that do not. Assumes nothing.
use mathlib.Core.Path.{◌≡◌, refl}
use mathlib.Core.List.{List, [], ◌∷◌}
use Prim.Native.Nat.{ℕ}
use native.Mathlib.Omega.{arith}
use Rattle.sets.specs.Sets.{digit, is_member, in_range, only_if, full, union, common, inside, is_empty}
use Rattle.lists.specs.Passing.{passing}
use Rattle.rules.specs.Rules.{starting, at_most}
use Rattle.rules.specs.Meaning.{Meets}
use Rattle.rules.specs.Reading.{tag_of, length_at, set_at, atom_of, head_of, content_of, rule_of, length_fits, tag_fault, body_fault, header_body_fault, position_fault, set_fault, atom_fault, positions_fault, empty_fault, named, named_twice, twice_fault, rule_fault, rule_at, field_fault, with_position, seen_with, again_fault, fault_after, limits_fit, header_fault, sound, refused, size_of, read_fields, reading}

-- v 2 and n 2, and behind that a field of tag 5 of so many bytes: k, the last byte of the set, and the positions
abbrev file : ℕ → ℕ → ℕ → List ℕ → List ℕ
file len k low ps = 1 ∷ 0 ∷ 2 ∷ 2 ∷ 2 ∷ 5 ∷ 0 ∷ len ∷ k ∷ 0 ∷ 0 ∷ 0 ∷ low ∷ ps

-- at most one of positions 2 and 1 in {1}; no position at all, with k 255 and the empty set
pub at_most-read : (reading (file 7 1 1 (2 ∷ 1 ∷ [])) ≡ sound (record { v = 2; n = 2; rules = at_most 1 1 (2 ∷ 1 ∷ []) ∷ [] })) × (reading (file 5 255 0 []) ≡ sound (record { v = 2; n = 2; rules = at_most 255 0 [] ∷ [] }))
unfolding reading header_fault header_body_fault limits_fit read_fields size_of fault_after again_fault seen_with field_fault body_fault rule_at rule_of rule_fault set_fault positions_fault position_fault named named_twice twice_fault tag_fault length_fits content_of head_of set_at length_at tag_of full inside in_range only_if common
at_most-read = (refl, refl)

-- a position that an at-most field names has no starting set by that: one may stand behind it
pub at_most_in_front : reading (file 6 1 1 (1 ∷ 4 ∷ 0 ∷ 5 ∷ 1 ∷ 0 ∷ 0 ∷ 0 ∷ 2 ∷ [])) ≡ sound (record { v = 2; n = 2; rules = at_most 1 1 (1 ∷ []) ∷ starting (record { position = 1; set = 2 }) ∷ [] })
unfolding reading header_fault header_body_fault limits_fit read_fields size_of fault_after again_fault seen_with with_position field_fault body_fault rule_at rule_of rule_fault atom_fault set_fault positions_fault position_fault empty_fault named named_twice twice_fault tag_fault length_fits content_of head_of atom_of set_at length_at tag_of full inside in_range only_if common union is_empty is_member digit
at_most_in_front = refl

-- four bytes and no set; a value above n before a position above v; a position above v behind one that is named twice; a position named twice
pub at_most-refused : (reading (1 ∷ 0 ∷ 2 ∷ 2 ∷ 2 ∷ 5 ∷ 0 ∷ 4 ∷ 1 ∷ 0 ∷ 0 ∷ 0 ∷ []) ≡ refused 17 5) × (reading (file 7 1 4 (3 ∷ 3 ∷ [])) ≡ refused 20 5)
    × (reading (file 8 1 1 (1 ∷ 1 ∷ 3 ∷ [])) ≡ refused 19 5) × (reading (file 8 1 1 (1 ∷ 2 ∷ 1 ∷ [])) ≡ refused 36 5)
unfolding reading header_fault header_body_fault limits_fit read_fields size_of fault_after again_fault field_fault body_fault rule_at rule_of rule_fault set_fault positions_fault position_fault named named_twice twice_fault tag_fault length_fits content_of head_of set_at length_at tag_of full inside in_range only_if common
at_most-refused = (refl, refl, refl, refl)

-- of 1, 2, 1 at most two are in {1}, and not at most one; at most one is in {2}
pub at_most_met : Meets (1 ∷ 2 ∷ 1 ∷ []) (at_most 2 1 (1 ∷ 2 ∷ 3 ∷ [])) × (Meets (1 ∷ 2 ∷ 1 ∷ []) (at_most 1 1 (1 ∷ 2 ∷ 3 ∷ [])) → ⊥) × Meets (1 ∷ 2 ∷ 1 ∷ []) (at_most 1 2 (1 ∷ 2 ∷ 3 ∷ []))
unfolding passing is_member digit
at_most_met = (omega arith, λ h. omega arith, omega arith)
