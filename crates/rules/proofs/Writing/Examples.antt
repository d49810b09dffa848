-- An example of a rule file: its bytes are read as the file, the file is written as the bytes, and its fields stand where they do. Assumes nothing.
use mathlib.Core.Path.{◌≡◌, refl, ap}
use mathlib.Core.List.{List, [], ◌∷◌, ◌++◌, map}
use native.Mathlib.Omega.{arith}
use lib.ListN.{length}
use Prim.Native.Nat.{ℕ}
use Rattle.sets.specs.Sets.{in_range, only_if, full, common, inside}
use Rattle.rules.specs.Rules.{Rule, File, Field, clause, equality, starting, at_most}
use Rattle.rules.specs.Reading.{tag_of, length_at, set_at, atom_of, head_of, content_of, atoms_of, rule_of, length_fits, tag_fault, body_fault, header_body_fault, position_fault, set_fault, atom_fault, atoms_fault, positions_fault, rule_fault, rule_at, field_fault, again_fault, fault_after, limits_fit, header_fault, sound, size_of, read_fields, reading}
use Rattle.rules.specs.Writing.{two_bytes, four_bytes, written_atoms, framed, tag_byte, content_bytes, written_rule, written_rules, written, placed, fields_of}
use Rattle.rules.specs.Sound.{StandsIn}
use Rattle.rules.specs.UpTo.{fields_up_to, fields_behind, only_starts, up_to}

-- v 2 and n 2; "1 in {} or 1 in {1, 2} or 2 in {2}"; "the values of positions 1 and 1 are {1, 2}"; an empty clause
pub example_bytes : List ℕ
example_bytes =
    (1 ∷ 0 ∷ 2 ∷ 2 ∷ 2 ∷ [])
    ++ (2 ∷ 0 ∷ 15 ∷ 1 ∷ 0 ∷ 0 ∷ 0 ∷ 0 ∷ 1 ∷ 0 ∷ 0 ∷ 0 ∷ 3 ∷ 2 ∷ 0 ∷ 0 ∷ 0 ∷ 2 ∷ [])
    ++ (3 ∷ 0 ∷ 6 ∷ 0 ∷ 0 ∷ 0 ∷ 3 ∷ 1 ∷ 1 ∷ [])
    ++ (2 ∷ 0 ∷ 0 ∷ [])

-- the file that they are: three rules
pub example_file : File
example_file = record {
  v = 2;
  n = 2;
  rules =
      clause (record { position = 1; set = 0 } ∷ record { position = 1; set = 3 } ∷ record { position = 2; set = 2 } ∷ [])
      ∷ equality 3 (1 ∷ 1 ∷ [])
      ∷ clause []
      ∷ [];
}

-- the bytes are read as the file
pub example-read : reading example_bytes ≡ sound example_file
unfolding example_bytes example_file reading header_fault limits_fit read_fields size_of fault_after again_fault field_fault rule_at rule_of rule_fault atoms_fault positions_fault atom_fault set_fault position_fault tag_fault body_fault header_body_fault length_fits atoms_of content_of head_of atom_of set_at length_at tag_of full inside in_range only_if common
example-read = refl

-- the file is written as the bytes
pub example-written : written example_file ≡ example_bytes
unfolding example_bytes example_file written written_rules written_rule framed tag_byte content_bytes written_atoms four_bytes two_bytes
example-written = refl

-- its fields stand at the places 5, 23 and 32
pub example_places : map (λ (f : Field). f.place) (fields_of example_file) ≡ 5 ∷ 23 ∷ 32 ∷ []
unfolding example_file fields_of placed written_rule framed tag_byte content_bytes written_atoms four_bytes two_bytes
example_places = refl

-- up to the field at 23 there are the first two rules, up to 22 the first alone, and before the first none
pub example-up_to : (map tag_byte (up_to 23 example_file).rules ≡ 2 ∷ 3 ∷ []) × (map tag_byte (up_to 22 example_file).rules ≡ 2 ∷ []) × ((up_to 4 example_file).rules ≡ [])
unfolding example_file fields_of placed written_rule framed tag_byte content_bytes written_atoms four_bytes two_bytes fields_up_to fields_behind only_starts up_to
example-up_to = (refl, refl, refl)

-- the number of atoms of a clause; 0 for another rule
abbrev atoms_in : Rule → ℕ
atoms_in (clause atoms) = length atoms
atoms_in (equality m ps) = 0
atoms_in (starting a) = 0
atoms_in (at_most k m ps) = 0

-- the empty clause stands in the bytes at 32, where its tag byte is; it does not stand at 33, and at 5 another clause is read
pub example_stands : StandsIn example_bytes (record { place = 32; rule = clause [] }) × (StandsIn example_bytes (record { place = 33; rule = clause [] }) → ⊥)
    × (StandsIn example_bytes (record { place = 5; rule = clause [] }) → ⊥)
unfolding example_bytes tag_byte rule_at rule_of atoms_of content_of head_of length_at tag_of
example_stands = (record { behind = omega arith; within = omega arith; tag = refl; rule = refl }, λ stands. omega (arith, stands.tag), λ stands. let z = ap atoms_in stands.rule in omega (arith, z))
