-- The numbers and places of refusals: reading refuses with 13 to 20, 26, 27 and 36 alone, `refused-number`, at a place within the input, `refused-place`; else v and n are the header's, `read_limits`, and no rule has a fault, `read_faultless`. Assumes nothing.
use mathlib.Core.Path.{◌≡◌, refl, sym, subst, subst₂}
use mathlib.Core.Bool.{Bool, true, false}
use mathlib.Core.List.{List, [], ◌∷◌}
use mathlib.Core.Logic.{◌⊎◌, inl, inr, ⊎_elim}
use Prim.Native.Nat.{ℕ, zero, suc, ◌+◌, ◌≤◌, ◌<◌}
use native.Mathlib.Omega.{arith}
use lib.Dec.{lit≤}
use lib.ListN.{length, get_or, drop, length-drop}
use Rattle.lists.specs.Lists.{Every}
use Rattle.rules.specs.declared.field.Atom.{Atom}
use Rattle.rules.specs.declared.field.Tag.{Tag}
use Rattle.rules.specs.declared.field.Tag.TheVariants.{Header, Clause, Equality, Starting, AtMost, Unknown}
use Rattle.rules.specs.Rules.{Rule, File, clause, equality, starting, at_most}
use Rattle.rules.specs.Reading.{fault_if, or_else, named_twice, position_fault, set_fault, atom_fault, atoms_fault, positions_fault, empty_fault, twice_fault, rule_fault, tag_fault, body_fault, field_fault, again_fault, fault_after, header_body_fault, header_fault}
use Rattle.rules.specs.Reading.{Reading, sound, refused, refuse_for, with_rule, rule_at, size_of, seen_with, read_fields, reading}
use Rattle.rules.proofs.Reading.FaultlessLaws.{fault_after-none}

-- the numbers that reading refuses with
abbrev Refusing : ℕ → Type 0
Refusing number = ((13 ≤ number) × (number ≤ 20)) ⊎ ((26 ≤ number) × (number ≤ 27)) ⊎ (number ≡ 36)

-- ---- faults: none, or one of these numbers

abbrev Fault : ℕ → Type 0
Fault number = (number ≡ 0) ⊎ Refusing number

no_fault : Fault 0
no_fault = inl refl

fault_if-number : (b : Bool) (number : ℕ) (rest : Unit {0} → ℕ) → Refusing number → Fault (rest tt) → Fault (fault_if b number rest)
fault_if-number true number rest is f = inr is
fault_if-number false number rest is f = f

-- 01's numbers, and those of starting sets
early : (number : ℕ) → 13 ≤ number → number ≤ 20 → Refusing number
early number low high = inl (low, high)

late : (number : ℕ) → 26 ≤ number → number ≤ 27 → Refusing number
late number low high = inr (inl (low, high))

or_else-number : (first later : ℕ) → Fault first → Fault later → Fault (or_else first later)
or_else-number zero later f g = g
or_else-number (suc first) later f g = f

-- a chain of tests, each with such a number
ruleset numbers = (no_fault, fault_if-number, or_else-number, early, late, lit≤)

position-number : (v p : ℕ) → Fault (position_fault v p)
unfolding position_fault
position-number v p = search numbers

set-number : (n m : ℕ) → Fault (set_fault n m)
unfolding set_fault
set-number n m = search numbers

atom-number : (v n : ℕ) (a : Atom) → Fault (atom_fault v n a)
unfolding atom_fault
atom-number v n a = or_else-number _ _ (position-number v a.position) (set-number n a.set)

atoms-number : (v n : ℕ) (atoms : List Atom) → Fault (atoms_fault v n atoms)
unfolding atoms_fault
atoms-number v n [] = inl refl
atoms-number v n (a ∷ more) = or_else-number _ _ (atom-number v n a) (atoms-number v n more)

empty-number : (m : ℕ) → Fault (empty_fault m)
unfolding empty_fault
empty-number m = search numbers

positions-number : (v : ℕ) (ps : List ℕ) → Fault (positions_fault v ps)
unfolding positions_fault
positions-number v [] = inl refl
positions-number v (p ∷ ps) = or_else-number _ _ (position-number v p) (positions-number v ps)

twice-number : (ps : List ℕ) → Fault (twice_fault ps)
unfolding twice_fault
twice-number ps = fault_if-number (named_twice ps) 36 _ (inr (inr refl)) no_fault

rule-number : (v n : ℕ) (rule : Rule) → Fault (rule_fault v n rule)
unfolding rule_fault
rule-number v n (clause atoms) = atoms-number v n atoms
rule-number v n (equality m ps) = or_else-number _ _ (set-number n m) (positions-number v ps)
rule-number v n (starting a) = or_else-number _ _ (atom-number v n a) (empty-number a.set)
rule-number v n (at_most k m ps) = or_else-number _ _ (set-number n m) (or_else-number _ _ (positions-number v ps) (twice-number ps))

tag-number : (kind : Tag) → Fault (tag_fault kind)
unfolding tag_fault
tag-number Header = inr (early _ (omega arith) (omega arith))
tag-number Clause = no_fault
tag-number Equality = no_fault
tag-number Starting = no_fault
tag-number AtMost = no_fault
tag-number Unknown = inr (early _ (omega arith) (omega arith))

field-number : (v n : ℕ) (bytes : List ℕ) → Fault (field_fault v n bytes)
unfolding field_fault body_fault
field-number v n bytes = search (numbers, tag-number, rule-number) depth 8

again-number : (seen : ℕ) (rule : Rule) → Fault (again_fault seen rule)
unfolding again_fault
again-number seen (clause atoms) = no_fault
again-number seen (equality m ps) = no_fault
again-number seen (starting a) = search numbers
again-number seen (at_most k m ps) = no_fault

after-number : (v n seen : ℕ) (bytes : List ℕ) → Fault (fault_after v n seen bytes)
unfolding fault_after
after-number v n seen bytes = search (or_else-number, field-number, again-number)

header-number : (bytes : List ℕ) → Fault (header_fault bytes)
unfolding header_fault header_body_fault
header-number bytes = search numbers depth 12

-- ---- readings

-- no rule has a fault
abbrev pub Faultless : ℕ → ℕ → List Rule → Type 0
Faultless v n rules = Every (λ rule. rule_fault v n rule ≡ 0) rules

-- a file with these v and n and no rule with a fault, or a refusal with one of these numbers at a place up to the end
abbrev Fine : ℕ → ℕ → ℕ → Reading → Type 0
Fine v n end (sound file) = (file.v ≡ v) × (file.n ≡ n) × Faultless v n file.rules
Fine v n end (refused number place) = Refusing number × (place ≤ end)

module _ (v n end : ℕ) where
  refuse_for_fine : (fault place : ℕ) (rest : Unit {0} → Reading) → Fault fault → place ≤ end → (fault ≡ 0 → Fine v n end (rest tt)) → Fine v n end (refuse_for fault place rest)
  refuse_for_fine zero place rest f h r = r refl
  refuse_for_fine (suc number) place rest (inl e) h r = absurd (omega arith)
  refuse_for_fine (suc number) place rest (inr g) h r = (g, h)

  with_rule_fine : (rule : Rule) (found : Reading) → rule_fault v n rule ≡ 0 → Fine v n end found → Fine v n end (with_rule rule found)
  with_rule_fine rule (sound file) e r = (r.0, r.1, (e, r.2))
  with_rule_fine rule (refused number place) e r = r

  fields_fine : (k seen place : ℕ) (bytes : List ℕ) → (0 < length bytes → place + length bytes ≤ end) → Fine v n end (read_fields k v n seen place bytes)
  unfolding read_fields
  fields_fine zero seen place bytes h = (refl, refl, tt)
  fields_fine (suc k) seen place [] h = (refl, refl, tt)
  fields_fine (suc k) seen place (b ∷ bs) h =
      let bytes : List ℕ = b ∷ bs in
      let size : ℕ = size_of bytes in
      let rest : List ℕ = drop size bytes in
      let there : place + length bytes ≤ end = h (omega arith) in
      let seen' : ℕ = seen_with (rule_at bytes) seen in
      let later = fields_fine k seen' (place + size) rest (λ l. omega (arith, length-drop size bytes)) in
      refuse_for_fine (fault_after v n seen bytes) place _ (after-number v n seen bytes) (omega arith)
      (λ e. with_rule_fine (rule_at bytes) (read_fields k v n seen' (place + size) rest) ((fault_after-none v n seen bytes).0 e).0.rule_faultless later)

reading_fine : (s : List ℕ) → Fine (get_or s 3 0) (get_or s 4 0) (length s) (reading s)
unfolding reading
reading_fine s =
    let fields = fields_fine (get_or s 3 0) (get_or s 4 0) (length s) (length s) 0 5 (drop 5 s) (λ l. omega (arith, length-drop 5 s)) in
    refuse_for_fine (get_or s 3 0) (get_or s 4 0) (length s) (header_fault s) 0 _ (header-number s) (omega arith) (λ e. fields)

-- reading refuses with the numbers 13 to 20, 26, 27 and 36 alone
pub refused-number : (s : List ℕ) (number place : ℕ) → reading s ≡ refused number place → ((13 ≤ number) × (number ≤ 20)) ⊎ ((26 ≤ number) × (number ≤ 27)) ⊎ (number ≡ 36)
refused-number s number place e = (subst (Fine (get_or s 3 0) (get_or s 4 0) (length s)) e (reading_fine s)).0

-- so they lie between 13 and 36
pub refused_range : (s : List ℕ) (number place : ℕ) → reading s ≡ refused number place → (13 ≤ number) × (number ≤ 36)
refused_range s number place e = ⊎_elim (λ h. omega arith) (⊎_elim (λ h. omega arith) (λ h. omega arith)) (refused-number s number place e)

-- the place of a refusal lies within the input
pub refused-place : (s : List ℕ) (number place : ℕ) → reading s ≡ refused number place → place ≤ length s
refused-place s number place e = (subst (Fine (get_or s 3 0) (get_or s 4 0) (length s)) e (reading_fine s)).1

module _ (s : List ℕ) (file : File) (read : reading s ≡ sound file) where
  file_fine : Fine (get_or s 3 0) (get_or s 4 0) (length s) (sound file)
  file_fine = subst (Fine (get_or s 3 0) (get_or s 4 0) (length s)) read (reading_fine s)

  -- v and n of a file that was read are those of its header
  pub read_limits : (file.v ≡ get_or s 3 0) × (file.n ≡ get_or s 4 0)
  read_limits = (file_fine.0, file_fine.1)

  -- and none of its rules has a fault
  pub read_faultless : Faultless file.v file.n file.rules
  read_faultless = subst₂ (λ (v n : ℕ). Faultless v n file.rules) (sym read_limits.0) (sym read_limits.1) file_fine.2
