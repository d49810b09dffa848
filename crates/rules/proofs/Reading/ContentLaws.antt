-- Laws of the content of a field without a fault: what is known of its length and of itself by its kind, `content_fits`, its atoms in turn, `atoms_on`, and its positions, `positions_on`. Assumes nothing.
use mathlib.Core.Path.{◌≡◌, sym, ap, ◌∙◌, subst}
use mathlib.Core.List.{List, [], ◌∷◌}
use Prim.Native.Nat.{ℕ, suc, ◌+◌, ◌-◌, ◌*◌, ◌/◌, ◌%◌, ◌≤◌, ◌<◌}
use native.Mathlib.Numerals.{add-one}
use native.Mathlib.Omega.{arith}
use lib.Dec.{T, leb}
use lib.ListN.{length, get_or, take, drop, length-drop}
use lib.Seq.{drop-cons, drop-drop}
use Rattle.rules.specs.declared.field.Atom.{Atom}
use Rattle.rules.specs.Parts.{one_of, parts_of}
use Rattle.rules.specs.declared.field.Tag.{Tag}
use Rattle.rules.specs.declared.field.Tag.TheVariants.{Header, Clause, Equality, Starting, AtMost, Unknown}
use Rattle.rules.specs.Reading.{atom_of, atoms_of, rule_of, length_fits, tag_fault, rule_fault}
use Rattle.rules.specs.Writing.{PositionFits, AtomFits}
use Rattle.rules.specs.Contents.{AtomsFit, ContentFits}
use Rattle.lists.proofs.ListLaws.{every_map}
use Rattle.lists.proofs.TestLaws.{both_hold, le_holds, eq_holds}
use Rattle.rules.proofs.Reading.FaultlessLaws.{clause_fault-none, equality_fault-none, starting_fault-none, at_most_fault-none}

-- a clause's length is 5 for each atom
pub clause-length : (len : ℕ) → T (length_fits Clause len) → len / 5 * 5 ≡ len
unfolding length_fits
clause-length len t = omega (arith, (eq_holds (len % 5) 0).0 t)

-- an equality's length is 4 at least
pub equality-length : (len : ℕ) → T (length_fits Equality len) → 4 ≤ len
unfolding length_fits
equality-length len t = (le_holds 4 len).0 ((both_hold (leb 4 len) (leb len 68)).0 t).0

-- a starting set's length is 5
pub starting-length : (len : ℕ) → T (length_fits Starting len) → len ≡ 5
unfolding length_fits
starting-length len t = (eq_holds len 5).0 t

-- an at-most field's length is 5 at least
pub at_most-length : (len : ℕ) → T (length_fits AtMost len) → 5 ≤ len
unfolding length_fits
at_most-length len t = (le_holds 5 len).0 ((both_hold (leb 5 len) (leb len 69)).0 t).0

-- so it is one atom
pub one_atom : (len : ℕ) (content : List ℕ) → len ≡ 5 → atoms_of (len / 5) content ≡ atom_of content ∷ []
unfolding atoms_of
one_atom len content e = ap (λ (k : ℕ). atoms_of (k / 5) content) e

-- and its part is the clause that those bytes are
pub start-parts : (len : ℕ) (content : List ℕ) → len ≡ 5 → parts_of (rule_of Starting len content) ≡ one_of (atoms_of (len / 5) content) ∷ []
unfolding rule_of parts_of
start-parts len content e = ap (λ (atoms : List Atom). one_of atoms ∷ []) (sym (one_atom len content e))

-- what the tests of a content say, by its kind
pub content_fits : (v n : ℕ) (kind : Tag) (len : ℕ) (content : List ℕ) → v ≤ 64 → tag_fault kind ≡ 0 → T (length_fits kind len)
    → len ≤ length content → rule_fault v n (rule_of kind len content) ≡ 0 → ContentFits kind v len content
unfolding tag_fault rule_of
content_fits v n Header len content few f t there none = absurd (omega arith)
content_fits v n Clause len content few f t there none =
    let atoms = atoms_of (len / 5) content in
    record {
      whole = clause-length len t;
      there = there;
      few = few;
      fit = every_map (AtomFits v n) (λ (a : Atom). PositionFits v a.position) atoms (λ a h. h.0) ((clause_fault-none v n atoms).0 none);
    }
content_fits v n Equality len content few f t there none =
    let long = equality-length len t in
    (long, record { there = omega (arith, length-drop 4 content); few = few; fit = ((equality_fault-none v n _ _).0 none).1 })
content_fits v n Starting len content few f t there none =
    let five = starting-length len t in (
      five,
      record {
        whole = omega arith;
        there = there;
        few = few;
        fit = subst (AtomsFit v) (sym (one_atom len content five)) (((starting_fault-none v n (atom_of content)).0 none).0.0, tt);
      },
    )
content_fits v n AtMost len content few f t there none =
    let long = at_most-length len t in
    (long, record { there = omega (arith, length-drop 5 content); few = few; fit = ((at_most_fault-none v n _ _ _).0 none).1 })
content_fits v n Unknown len content few f t there none = absurd (omega arith)

-- the first of some atoms, and the others
pub atoms_on : (left at : ℕ) (bytes : List ℕ) → 0 < left → atoms_of left (drop at bytes) ≡ atom_of (drop at bytes) ∷ atoms_of (left - 1) (drop (at + 5) bytes)
unfolding atoms_of
atoms_on left at bytes h = ap (λ (k : ℕ). atoms_of k (drop at bytes)) one_more ∙ ap (λ (rest : List ℕ). atom_of (drop at bytes) ∷ atoms_of (left - 1) rest) (drop-drop 5 at bytes)
  where
    one_more : left ≡ suc (left - 1)
    one_more = omega arith

-- the first of the positions from an index on, and the others
pub positions_on : (count i : ℕ) (ps : List ℕ) → i < count → count ≤ length ps → take (count - i) (drop i ps) ≡ get_or ps i 0 ∷ take (count - (i + 1)) (drop (i + 1) ps)
positions_on count i ps there fits =
    let one_more : count - i ≡ suc (count - (i + 1)) = omega arith in
    rw (one_more, add-one, drop-cons ps i 0 (omega arith))
