-- Demand 3's special kind in 01's and R-6's words: `special-exactly`, which of the starred cases are of that kind, and a starting set with gaps. Assumes nothing.
use mathlib.Core.Path.{◌≡◌, refl, ap, subst}
use mathlib.Core.Logic.Iff
use mathlib.Core.Logic.{◌↔◌, ◌⊎◌, inl, inr, ⊎_elim}
use mathlib.Core.Bool.{Bool, true, false}
use mathlib.Core.List.{List, [], ◌∷◌}
use Prim.Native.Nat.{ℕ, ◌-◌, ◌≤◌}
use native.Mathlib.Decide.{dec_le}
use native.Mathlib.Omega.{arith}
use lib.Dec.{T, leb→le, le→leb}
use Rattle.sets.specs.Sets.{full, union, common, complement, in_range, only_if, is_empty, inside, listed_if, values_from, values, first_of, smallest, beside}
use Rattle.sets.specs.Promise.{one_if}
use Rattle.rules.specs.declared.field.Atom.{Atom}
use Rattle.lists.specs.Lists.{Every}
use Rattle.rules.specs.Rules.{Rule, Field, File, clause, equality, starting, at_most}
use Rattle.rules.specs.Writing.{tag_byte, placed, fields_of}
use Rattle.rules.specs.Reading.{Reading, sound, refused}
use Rattle.rules.specs.Reading.{tag_of, length_at, set_at, atom_of, head_of, content_of, atoms_of, rule_of, length_fits, tag_fault, body_fault, header_body_fault, position_fault, set_fault, atom_fault, atoms_fault, positions_fault, rule_fault, rule_at, field_fault, again_fault, fault_after, limits_fit, header_fault, size_of, read_fields, reading}
use Rattle.lists.proofs.TestLaws.{both_hold}
use Rattle.steps.specs.Boxes.{room_at, with_room, start_box, Rooms}
use Rattle.steps.specs.Start.{start_by, starts_by, start_of}
use Rattle.steps.specs.Shrinking.{unite_if, united}
use Rattle.steps.specs.Special.{is_ladder, odd_sets, special_rule, special_rules, special}
use Rattle.steps.specs.Cases.{case, case_a, case_b, case_c, case_d, case_e, case_f, case_g, case_h, case_i, case_j, case_k, case_l}
use Rattle.steps.proofs.Boxes.BoxLaws.{room_below}
use Rattle.steps.proofs.Special.LadderLaws.{EverySmaller, ladder-exactly, Odd, NoTwoOdd, few_odd}

-- ---- clauses

-- the position's united set does not count as empty or {1..b} by its starting set: some starting value in it is above one that it lacks
abbrev pub NoLadder : List ℕ → List Atom → ℕ → Type 0
NoLadder start atoms p = EverySmaller (room_at start p) (united p atoms) → ⊥

-- of the positions 1 to v at most one has such a set
abbrev pub OneNoLadder : ℕ → List ℕ → List Atom → Type 0
OneNoLadder v start atoms = (p q : ℕ) → (1 ≤ p) × (p ≤ v) → (1 ≤ q) × (q ≤ v) → NoLadder start atoms p → NoLadder start atoms q → p ≡ q

-- of a clause that passes the test at most one position is counted
pub special-few : (v : ℕ) (start : List ℕ) (atoms : List Atom) → T (special_rule v start (clause atoms)) → odd_sets v start atoms ≤ 1
unfolding special_rule
special-few v start atoms t = omega (arith, leb→le (odd_sets v start atoms) _ t)

-- ---- rules and files

-- the rule is a starting set, or a clause in which at most one position has a united set that does not count as empty or {1..b}
abbrev pub SpecialRule : ℕ → List ℕ → Rule → Type 0
SpecialRule v start rule = ((a : Atom) × (rule ≡ starting a)) ⊎ ((atoms : List Atom) × (rule ≡ clause atoms) × OneNoLadder v start atoms)

-- so its tag is 2 or 4
special-tag : (v : ℕ) (start : List ℕ) (rule : Rule) → SpecialRule v start rule → (tag_byte rule ≡ 2) ⊎ (tag_byte rule ≡ 4)
unfolding tag_byte
special-tag v start rule (inl (a, e)) = inr (ap tag_byte e)
special-tag v start rule (inr (atoms, e, one)) = inl (ap tag_byte e)

module _ (v : ℕ) (start : List ℕ) (first : Rooms start) where
  -- at most one is counted exactly if at most one has such a set
  few-exactly : (atoms : List Atom) → (odd_sets v start atoms ≤ 1) ↔ OneNoLadder v start atoms
  unfolding room_at
  few-exactly atoms = Iff.trans (few_odd start atoms v) (forth, back)
    where
      ladder : (p : ℕ) → Odd start atoms p ↔ NoLadder start atoms p
      ladder p = Iff.not (ladder-exactly (room_at start p) (united p atoms) (room_below start (p - 1) first))

      forth : NoTwoOdd start atoms v → OneNoLadder v start atoms
      forth none p q here there odd also = go (dec_le p q) (dec_le q p)
        where
          go : Dec (p ≤ q) → Dec (q ≤ p) → p ≡ q
          go (yes l) (yes g) = omega arith
          go (no l) g = absurd (none q p there.0 (omega arith) here.1 ((ladder q).1 also) ((ladder p).1 odd))
          go (yes l) (no g) = absurd (none p q here.0 (omega arith) there.1 ((ladder p).1 odd) ((ladder q).1 also))

      back : OneNoLadder v start atoms → NoTwoOdd start atoms v
      back one p q low less high odd also =
          let same = one p q (low, omega arith) (omega arith, high) ((ladder p).0 odd) ((ladder q).0 also) in
          omega arith

  -- the test of a rule holds exactly of these
  pub special_rule-exactly : (rule : Rule) → T (special_rule v start rule) ↔ SpecialRule v start rule
  unfolding special_rule tag_byte
  special_rule-exactly (clause atoms) = (λ t. inr (atoms, refl, (few-exactly atoms).0 (special-few v start atoms t)), back)
    where
      back : SpecialRule v start (clause atoms) → T (special_rule v start (clause atoms))
      back (inl (a, e)) = absurd (omega (arith, ap tag_byte e))
      back (inr (some, e, one)) = let same : some ≡ atoms = cc in le→leb (odd_sets v start atoms) _ ((few-exactly atoms).1 (subst (OneNoLadder v start) same one))
  special_rule-exactly (equality m ps) = (absurd, λ s. ⊎_elim (λ e. absurd (omega arith)) (λ e. absurd (omega arith)) (special-tag v start (equality m ps) s))
  special_rule-exactly (starting a) = (λ t. inl (a, refl), λ s. tt)
  special_rule-exactly (at_most k m ps) = (absurd, λ s. ⊎_elim (λ e. absurd (omega arith)) (λ e. absurd (omega arith)) (special-tag v start (at_most k m ps) s))

  -- of every rule in turn
  special_rules-exactly : (fields : List Field) → T (special_rules v start fields) ↔ Every (λ f. SpecialRule v start f.rule) fields
  unfolding special_rules
  special_rules-exactly [] = (λ t. tt, λ t. tt)
  special_rules-exactly (f ∷ fs) =
      Iff.trans (both_hold (special_rule v start f.rule) (special_rules v start fs)) (Iff.and (special_rule-exactly f.rule) (special_rules-exactly fs))

-- a file is of the special kind exactly if all of its rules are such, by the starting sets of the file
pub special-exactly : (file : File) → Rooms (start_of file) → T (special file) ↔ Every (λ f. SpecialRule file.v (start_of file) f.rule) (fields_of file)
unfolding special
special-exactly file first = special_rules-exactly file.v (start_of file) first (fields_of file)

-- ---- the starred cases

-- the bytes are read as a file whose test of the special kind gives b
abbrev pub Kind : Bool → Reading → Type 0
Kind b (sound file) = special file ≡ b
Kind b (refused number place) = ⊥

-- b, c, d, j and k are of the special kind; the other starred cases have a clause with two sets that are no ladders, or an equality
pub starred-kinds :
    Every (λ c. Kind true (reading c.bytes)) (case_b ∷ case_c ∷ case_d ∷ case_j ∷ case_k ∷ [])
    × Every (λ c. Kind false (reading c.bytes)) (case_a ∷ case_e ∷ case_f ∷ case_g ∷ case_h ∷ case_i ∷ case_l ∷ [])
unfolding fields_of placed full union common complement in_range only_if is_empty inside listed_if values_from values first_of smallest beside one_if tag_of length_at set_at atom_of head_of content_of atoms_of rule_of length_fits tag_fault body_fault header_body_fault position_fault set_fault atom_fault atoms_fault positions_fault rule_fault rule_at field_fault again_fault fault_after limits_fit header_fault size_of read_fields reading room_at start_box start_by starts_by start_of unite_if united is_ladder odd_sets special_rule special_rules special case case_a case_b case_c case_d case_e case_f case_g case_h case_i case_j case_k case_l
starred-kinds = ((refl, (refl, (refl, (refl, (refl, tt))))), (refl, (refl, (refl, (refl, (refl, (refl, (refl, tt))))))))

-- ---- a starting set with gaps

-- position 1 starts at {1, 3, 5}, position 2 at {1..5}; and the clause "1 in m or 2 in {2}"
abbrev gapped : ℕ → File
gapped m = record {
  v = 2;
  n = 5;
  rules = starting (record { position = 1; set = 21 }) ∷ clause (record { position = 1; set = m } ∷ record { position = 2; set = 2 } ∷ []) ∷ [];
}

-- whether the set counts as empty or {1..b} at a position of that file
abbrev counts_at : ℕ → ℕ → Bool
counts_at p m = is_ladder (room_at (start_of (gapped m)) p) m

-- At position 1 {1, 3} counts, {3} and {1, 5} do not, and {2}, without a starting value, does. At position 2 {2} does not.
-- So the file is of the special kind where the set of position 1 counts.
pub gap_kinds :
    ((counts_at 1 5 ≡ true) × (counts_at 1 4 ≡ false) × (counts_at 1 17 ≡ false) × (counts_at 1 2 ≡ true) × (counts_at 2 2 ≡ false))
    × ((special (gapped 5) ≡ true) × (special (gapped 4) ≡ false) × (special (gapped 17) ≡ false) × (special (gapped 2) ≡ true))
unfolding fields_of placed full union common complement in_range only_if is_empty inside listed_if values_from values first_of smallest beside one_if room_at with_room start_box start_by starts_by start_of unite_if united is_ladder odd_sets special_rule special_rules special
gap_kinds = ((refl, refl, refl, refl, refl), (refl, refl, refl, refl))
