-- A rule without a fault is made of parts that fit (`rule_fits`); so are those of a file within 01's limits (`fields_fit`) and of one that was read (`read_fits`). Assumes nothing.
use mathlib.Core.Path.{◌≡◌, subst}
use mathlib.Core.List.{List, [], ◌∷◌, map}
use Prim.Native.Nat.{ℕ, ◌^◌, ◌≤◌, ◌<◌}
use lib.ListN.{length}
use Rattle.sets.specs.Sets.{full, single, values}
use Rattle.sets.proofs.Sameness.{inside_below, full_below, single_below}
use Rattle.lists.specs.Lists.{Every}
use Rattle.rules.specs.Rules.{Rule, clause, equality, starting, at_most, Field, File}
use Rattle.rules.specs.Parts.{one_of, atom_in, equality_parts, parts_of}
use Rattle.rules.specs.Reading.{rule_fault, sound, reading}
use Rattle.rules.specs.Sound.{file_of, fields_in, SoundInput}
use Rattle.rules.specs.declared.field.Atom.{Atom}
use Rattle.rules.specs.Writing.{fields_of, PositionFits, SetFits, AtomFits, RuleFits, Within}
use Rattle.lists.proofs.ListLaws.{every_of_listed, every-over-append, every-over_map, every_map}
use Rattle.rules.proofs.EqualityMeaning.{MaskFits}
use Rattle.rules.proofs.Writing.PlaceLaws.{every_field}
use Rattle.rules.proofs.Writing.WrittenLaws.{fits_faultless}
use Rattle.rules.proofs.Reading.FaultlessLaws.{clause_fault-none, equality_fault-none, starting_fault-none, at_most_fault-none}
use Rattle.rules.proofs.Reading.RefusalLaws.{Faultless, read_faultless}
use Rattle.steps.specs.Boxes.{BoxInside}
use Rattle.steps.proofs.Boxes.BoxLaws.{same_length}
use Rattle.steps.proofs.Looks.ClauseLaws.{ClauseFits}
use Rattle.steps.proofs.Looks.PartLaws.{PartFits}

-- a set within {1..n} is a mask
pub set_below : (n m : ℕ) → SetFits n m → m < 2 ^ 32
set_below n m i = inside_below m (full n) i (full_below n)

-- an atom within the limits names a position 1 to v, and its set is a mask
atom_fits : (v n : ℕ) (a : Atom) → AtomFits v n a → (1 ≤ a.position) × (a.position ≤ v) × (a.set < 2 ^ 32)
atom_fits v n a h = (h.0.0, h.0.1, set_below n a.set h.1)

-- the set of a rule without a fault is a mask
rule_mask : (v n : ℕ) (rule : Rule) → rule_fault v n rule ≡ 0 → MaskFits rule
rule_mask v n (clause atoms) e = tt
rule_mask v n (equality m ps) e = set_below n m ((equality_fault-none v n m ps).0 e).0
rule_mask v n (starting a) e = tt
rule_mask v n (at_most k m ps) e = tt

-- a clause that asks of some positions that they be in a mask fits
atoms-fit : (v m : ℕ) (ps : List ℕ) → Every (PositionFits v) ps → m < 2 ^ 32 → ClauseFits v (map (atom_in m) ps)
unfolding atom_in
atoms-fit v m [] fits mask = tt
atoms-fit v m (p ∷ ps) fits mask = ((fits.0.0, fits.0.1, mask), atoms-fit v m ps fits.1 mask)

-- the parts of a rule without a fault fit
parts-fit : (v n : ℕ) (rule : Rule) → rule_fault v n rule ≡ 0 → Every (PartFits v) (parts_of rule)
unfolding parts_of equality_parts
parts-fit v n (clause atoms) e = (
  every_map (AtomFits v n) (λ a. (1 ≤ a.position) × (a.position ≤ v) × (a.set < 2 ^ 32)) atoms (atom_fits v n) ((clause_fault-none v n atoms).0 e),
  tt,
)
parts-fit v n (starting a) e = ((atom_fits v n a ((starting_fault-none v n a).0 e).0, tt), tt)
parts-fit v n (at_most k m ps) e = (((at_most_fault-none v n k m ps).0 e).1, tt)
parts-fit v n (equality m ps) e =
    (every-over-append (PartFits v) (map (λ p. one_of (atom_in m p ∷ [])) ps) (map (λ x. one_of (map (atom_in (single x)) ps)) (values m))).1 (named, taken)
  where
    fits : SetFits n m × Every (PositionFits v) ps
    fits = (equality_fault-none v n m ps).0 e

    named : Every (PartFits v) (map (λ p. one_of (atom_in m p ∷ [])) ps)
    named =
        (every-over_map (PartFits v) (λ p. one_of (atom_in m p ∷ [])) ps).1
        (every_map (PositionFits v) (λ p. PartFits v (one_of (atom_in m p ∷ []))) ps (λ p h. atoms-fit v m (p ∷ []) (h, tt) (set_below n m fits.0)) fits.1)

    taken : Every (PartFits v) (map (λ x. one_of (map (atom_in (single x)) ps)) (values m))
    taken =
        (every-over_map (PartFits v) (λ x. one_of (map (atom_in (single x)) ps)) (values m)).1
        (every_of_listed (λ x. PartFits v (one_of (map (atom_in (single x)) ps))) (values m) (λ x t. atoms-fit v (single x) ps fits.1 (single_below x)))

-- a rule as the laws ask it to be: its set is a mask, and its parts fit v positions
abbrev pub Fits : ℕ → Rule → Type 0
Fits v rule = MaskFits rule × Every (PartFits v) (parts_of rule)

-- a rule without a fault is such a rule
rule_fits : (v n : ℕ) (rule : Rule) → rule_fault v n rule ≡ 0 → Fits v rule
rule_fits v n rule e = (rule_mask v n rule e, parts-fit v n rule e)

-- every rule of the fields fits v positions
abbrev pub FieldsFit : ℕ → List Field → Type 0
FieldsFit v fields = Every (λ f. Fits v f.rule) fields

-- so it is with the fields of a file whose rules have no fault
faultless-fit : (file : File) → Faultless file.v file.n file.rules → FieldsFit file.v (fields_of file)
faultless-fit file none =
    (every_field (Fits file.v) file).0 (every_map (λ rule. rule_fault file.v file.n rule ≡ 0) (Fits file.v) file.rules (rule_fits file.v file.n) none)

-- as those of a file within 01's limits have none
pub fields_fit : (file : File) → Within file → FieldsFit file.v (fields_of file)
fields_fit file within =
    faultless-fit file (every_map (RuleFits file.v file.n) (λ rule. rule_fault file.v file.n rule ≡ 0) file.rules (fits_faultless file.v file.n) within.rules)

-- nor those of a file that was read
pub read_fits : (s : List ℕ) (file : File) → reading s ≡ sound file → FieldsFit file.v (fields_of file)
read_fits s file e = faultless-fit file (read_faultless s file e)

-- so the fields of a sound input fit its positions
pub sound_fits : (s : List ℕ) (v : ℕ) → SoundInput s v → FieldsFit v (fields_in s)
unfolding fields_in
sound_fits s v input = subst (λ (k : ℕ). FieldsFit k (fields_of (file_of (reading s)))) input.positions (read_fits s (file_of (reading s)) input.read)

-- ---- rules and boxes

-- the rules fit the positions of the box
abbrev pub FitsBox : List Field → List ℕ → Type 0
FitsBox fields box = FieldsFit (length box) fields

-- rules that fit a box fit every box inside
pub fits-inside : (fields : List Field) (b c : List ℕ) → BoxInside b c → FitsBox fields c → FitsBox fields b
fits-inside fields = same_length (λ v. FieldsFit v fields)
