-- When no fault is found: what the tests of reading then say. Assumes nothing.
use mathlib.Core.Path.{◌≡◌, refl, subst}
use mathlib.Core.Bool.{Bool, true, false, not}
use mathlib.Core.List.{List, [], ◌∷◌}
use mathlib.Core.Logic.Iff
use mathlib.Core.Logic.{◌↔◌}
use Prim.Native.Nat.{ℕ, zero, suc, ◌≤◌}
use native.Mathlib.Omega.{arith}
use lib.Dec.{T, eqb, T_not, not_T}
use lib.ListN.{length, get_or}
use Rattle.rules.specs.declared.field.Atom.{Atom}
use Rattle.lists.specs.Lists.{Every}
use Rattle.rules.specs.Rules.{Rule, clause, equality, starting, at_most}
use Rattle.rules.specs.Reading.{tag_of, length_fits, fault_if, or_else, tag_fault, body_fault, header_body_fault, position_fault, set_fault, atom_fault, atoms_fault, positions_fault, empty_fault, named_twice, twice_fault, rule_fault, rule_at, head_of, content_of, field_fault, again_fault, fault_after, limits_fit, header_fault}
use Rattle.rules.specs.Writing.{PositionFits, SetFits, AtomFits, Unseen}
use Rattle.sets.specs.Sets.{is_member, is_empty}
use Rattle.lists.proofs.TestLaws.{not-not, both_hold, le_holds, lt_fails, eq_holds, eq_fails}

-- ---- one fault after another

-- no fault: the test fails, and nothing after it finds one
pub fault-none : (b : Bool) (number : ℕ) (rest : Unit {0} → ℕ) → eqb number 0 ≡ false → (fault_if b number rest ≡ 0) ↔ (T (not b) × (rest tt ≡ 0))
fault-none true number rest h = (λ e. absurd (subst T h ((eq_holds number 0).1 e)), λ e. absurd e.0)
fault-none false number rest h = (λ e. (tt, e), λ e. e.1)

-- no fault: neither the first part finds one nor what comes after
pub or_else_none : (first later : ℕ) → (or_else first later ≡ 0) ↔ ((first ≡ 0) × (later ≡ 0))
or_else_none zero later = (λ e. (refl, e), λ e. e.1)
or_else_none (suc first) later = omega arith

-- a single test finds no fault exactly if it does not hold
pub test_fault-none : (b : Bool) (number : ℕ) → eqb number 0 ≡ false → (fault_if b number (λ _. 0) ≡ 0) ↔ (T b → ⊥)
test_fault-none b number h = Iff.trans (fault-none b number (λ _. 0) h) (λ f. T_not b f.0, λ f. (not_T b f, refl))

-- what a chain of tests says that finds no fault
pub ruleset tests = (fault-none, or_else_none, not-not, both_hold, le_holds, lt_fails, eq_holds, eq_fails)

-- of a list no fault is found exactly if none is found of any element
faults-none : {A : Type 0} (fault : A → ℕ) (P : A → Type 0) (faults : List A → ℕ) → ((a : A) → (fault a ≡ 0) ↔ P a) → faults [] ≡ 0
    → ((a : A) (more : List A) → faults (a ∷ more) ≡ or_else (fault a) (faults more)) → (xs : List A) → (faults xs ≡ 0) ↔ Every P xs
faults-none fault P faults one none step [] = (λ e. tt, λ t. none)
faults-none fault P faults one none step (a ∷ more) = simp (step, or_else_none, one, faults-none fault P faults one none step more) Iff.rfl

-- ---- the contents of a rule

position_fault-none : (v p : ℕ) → (position_fault v p ≡ 0) ↔ PositionFits v p
unfolding position_fault
position_fault-none v p = simp tests (λ h. h.0, λ h. (h, refl))

-- a set has no fault exactly if it lies within {1..n}
set_fault-none : (n m : ℕ) → (set_fault n m ≡ 0) ↔ SetFits n m
unfolding set_fault
set_fault-none n m = simp tests (λ h. h.0, λ h. (h, refl))

atom_fault-none : (v n : ℕ) (a : Atom) → (atom_fault v n a ≡ 0) ↔ AtomFits v n a
unfolding atom_fault
atom_fault-none v n a = simp (or_else_none, position_fault-none, set_fault-none) Iff.rfl

-- atoms have no fault exactly if each has its position and its set within the limits
atoms_fault-none : (v n : ℕ) (atoms : List Atom) → (atoms_fault v n atoms ≡ 0) ↔ Every (AtomFits v n) atoms
unfolding atoms_fault
atoms_fault-none v n = faults-none (atom_fault v n) _ (atoms_fault v n) (atom_fault-none v n) refl (λ a more. refl)

-- positions have no fault exactly if each is 1 to v
pub positions_fault-none : (v : ℕ) (ps : List ℕ) → (positions_fault v ps ≡ 0) ↔ Every (PositionFits v) ps
unfolding positions_fault
positions_fault-none v = faults-none (position_fault v) _ (positions_fault v) (position_fault-none v) refl (λ p more. refl)

-- so a clause has none exactly if that holds of its atoms
pub clause_fault-none : (v n : ℕ) (atoms : List Atom) → (rule_fault v n (clause atoms) ≡ 0) ↔ Every (AtomFits v n) atoms
unfolding rule_fault
clause_fault-none = atoms_fault-none

-- and an equality exactly if it holds of its set and its positions
pub equality_fault-none : (v n m : ℕ) (ps : List ℕ) → (rule_fault v n (equality m ps) ≡ 0) ↔ (SetFits n m × Every (PositionFits v) ps)
unfolding rule_fault
equality_fault-none v n m ps = simp (or_else_none, set_fault-none, positions_fault-none) Iff.rfl

-- a set is no empty starting set exactly if it has a value
empty_fault-none : (m : ℕ) → (empty_fault m ≡ 0) ↔ (m ≡ 0 → ⊥)
unfolding empty_fault is_empty
empty_fault-none m = simp tests (λ h. h.0, λ h. (h, refl))

-- and a starting set exactly if its position and its set are within the limits and it has a value
pub starting_fault-none : (v n : ℕ) (a : Atom) → (rule_fault v n (starting a) ≡ 0) ↔ (AtomFits v n a × (a.set ≡ 0 → ⊥))
unfolding rule_fault
starting_fault-none v n a = simp (or_else_none, atom_fault-none, empty_fault-none) Iff.rfl

-- no position of some is named twice exactly if there is no such fault
twice_fault-none : (ps : List ℕ) → (twice_fault ps ≡ 0) ↔ (T (named_twice ps) → ⊥)
unfolding twice_fault
twice_fault-none ps = test_fault-none (named_twice ps) 36 refl

-- and an at-most rule has none exactly if its set and its positions are within the limits and none of these is named twice
pub at_most_fault-none : (v n k m : ℕ) (ps : List ℕ) → (rule_fault v n (at_most k m ps) ≡ 0) ↔ (SetFits n m × Every (PositionFits v) ps × (T (named_twice ps) → ⊥))
unfolding rule_fault
at_most_fault-none v n k m ps = simp (or_else_none, set_fault-none, positions_fault-none, twice_fault-none) (λ h. search, λ h. search)

-- a rule is no second starting set exactly if its position was not seen
pub again_fault-none : (seen : ℕ) (r : Rule) → (again_fault seen r ≡ 0) ↔ Unseen seen r
unfolding again_fault
again_fault-none seen (clause atoms) = (λ e. tt, λ t. refl)
again_fault-none seen (equality m ps) = (λ e. tt, λ t. refl)
again_fault-none seen (starting a) = test_fault-none (is_member a.position seen) 27 refl
again_fault-none seen (at_most k m ps) = (λ e. tt, λ t. refl)

-- ---- a field and the header

-- what the tests of a field say
pub record SoundField (v n : ℕ) (bytes : List ℕ) : Type 0 where
  pub head_there : 3 ≤ length bytes
  pub tag_fits : tag_fault (tag_of (head_of bytes).tag) ≡ 0
  pub length_fits : T (length_fits (tag_of (head_of bytes).tag) (head_of bytes).length)
  pub content_there : (head_of bytes).length ≤ length (content_of bytes)
  pub rule_faultless : rule_fault v n (rule_at bytes) ≡ 0

-- a field has no fault exactly if it passes its tests
pub field_fault-none : (v n : ℕ) (bytes : List ℕ) → (field_fault v n bytes ≡ 0) ↔ SoundField v n bytes
unfolding field_fault body_fault rule_at
field_fault-none v n bytes = simp tests (λ h. search, λ f. search)

-- behind others a field has no fault exactly if it passes its tests, and is no second starting set of a position seen there
pub fault_after-none : (v n seen : ℕ) (bytes : List ℕ) → (fault_after v n seen bytes ≡ 0) ↔ (SoundField v n bytes × Unseen seen (rule_at bytes))
unfolding fault_after
fault_after-none v n seen bytes = simp (or_else_none, field_fault-none, again_fault-none) (λ h. search, λ h. search)

-- what the tests of the header say
pub record SoundHeader (bytes : List ℕ) : Type 0 where
  pub head_there : 3 ≤ length bytes
  pub header : (head_of bytes).tag ≡ 1
  pub two_long : (head_of bytes).length ≡ 2
  pub content_there : 2 ≤ length (content_of bytes)
  pub positions : (1 ≤ get_or bytes 3 0) × (get_or bytes 3 0 ≤ 64)
  pub values : (1 ≤ get_or bytes 4 0) × (get_or bytes 4 0 ≤ 32)

-- a header has no fault exactly if it passes its tests
pub header_fault-none : (bytes : List ℕ) → (header_fault bytes ≡ 0) ↔ SoundHeader bytes
unfolding header_fault header_body_fault length_fits limits_fit
header_fault-none bytes = simp tests (λ h. search, λ f. (omega arith, search))
