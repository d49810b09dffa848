-- Laws of the position that a field gives a starting set: what it is by the field's kind, `started_is`; the fault of a second one, `again_at`; and the positions seen with it, `seen_at`, `seen_still`. Assumes nothing.
use mathlib.Core.Path.{◌≡◌, refl, sym, ap, ◌∙◌, subst}
use mathlib.Core.List.{List}
use Prim.Native.Nat.{ℕ, suc, ◌+◌, ◌-◌, ◌≤◌}
use native.Mathlib.Omega.{arith}
use lib.Dec.{T}
use lib.ListN.{get_or, drop, length-drop}
use Rattle.sets.specs.Sets.{is_member}
use Rattle.sets.specs.Marks.{is_marked, with_mark}
use Rattle.sets.proofs.MarkLaws.{marked-exactly}
use Rattle.lists.proofs.TestLaws.{test_same}
use Rattle.rules.specs.declared.field.Tag.{Tag}
use Rattle.rules.specs.declared.field.Tag.TheVariants.{Header, Clause, Equality, Starting, AtMost, Unknown}
use Rattle.rules.specs.Rules.{Rule, clause, equality, starting, at_most}
use Rattle.rules.specs.Reading.{fault_if, tag_of, head_of, content_of, atom_of, rule_of, length_fits, rule_fault, rule_at, field_fault, with_position, seen_with, again_fault}
use Rattle.rules.proofs.Reading.ByteLaws.{first-drop}
use Rattle.rules.proofs.Reading.ContentLaws.{starting-length}
use Rattle.rules.proofs.Reading.FaultlessLaws.{field_fault-none, starting_fault-none}
use Rattle.sound.specs.Starts.{started_by, StartThere}

-- ---- a field without a fault

-- its position is there to be read
pub start-there : (v n : ℕ) (bytes : List ℕ) → v ≤ 64 → field_fault v n bytes ≡ 0 → StartThere bytes
unfolding rule_at rule_of content_of atom_of
start-there v n bytes few none =
    let field = (field_fault-none v n bytes).0 none in
    record {
      head = field.head_there;
      position = λ kind.
          let five = starting-length (head_of bytes).length (subst (λ (k : Tag). T (length_fits k (head_of bytes).length)) kind field.length_fits) in
          let rule = ap (λ (k : Tag). rule_fault v n (rule_of k (head_of bytes).length (drop 3 bytes))) (sym kind) ∙ field.rule_faultless in
          let fits = ((starting_fault-none v n (atom_of (drop 3 bytes))).0 rule).0.0 in
          omega (arith, five, field.content_there, length-drop 3 bytes, fits, first-drop bytes 3);
    }

-- ---- the position, by the field's kind

module _ (bytes : List ℕ) {kind : Tag} (is : kind ≡ tag_of (get_or bytes 0 0)) where
  rule_is : rule_at bytes ≡ rule_of kind (head_of bytes).length (drop 3 bytes)
  unfolding rule_at content_of head_of
  rule_is = ap (λ (k : Tag). rule_of k (head_of bytes).length (drop 3 bytes)) (sym is)

  -- a starting set has its position behind the head
  pub started_is : kind ≡ Starting → get_or bytes 3 0 ≡ started_by (rule_at bytes)
  unfolding started_by rule_of atom_of
  started_is e = sym (ap started_by (rule_is ∙ ap (λ (k : Tag). rule_of k (head_of bytes).length (drop 3 bytes)) e) ∙ first-drop bytes 3)

  -- any other field has none
  pub started_none : {other : Tag} → kind ≡ other → started_by (rule_of other (head_of bytes).length (drop 3 bytes)) ≡ 0 → 0 ≡ started_by (rule_at bytes)
  started_none e none = sym (ap started_by (rule_is ∙ ap (λ (k : Tag). rule_of k (head_of bytes).length (drop 3 bytes)) e) ∙ none)

-- ---- the fault of a second one, and the positions seen

module _ (seen : ℕ) (rule : Rule) where
  -- a rule that gives no position a starting set is no second one
  pub again-none : started_by rule ≡ 0 → 0 ≡ again_fault seen rule
  unfolding started_by again_fault is_member
  again-none = go rule
    where
      go : (r : Rule) → started_by r ≡ 0 → 0 ≡ again_fault seen r
      go (clause atoms) none = refl
      go (equality m ps) none = refl
      go (starting a) none = sym (ap (λ (q : ℕ). fault_if (is_member q seen) 27 (λ _. 0)) none)
      go (at_most k m ps) none = refl

  module _ (p : ℕ) (is : p + 1 ≡ started_by rule) where
    -- a position is marked at its index exactly where it was seen
    marked-seen : (position : ℕ) → p + 1 ≡ position → is_marked p seen ≡ is_member position seen
    marked-seen position e =
        let up : suc p ≡ position = omega arith in
        let same = marked-exactly p seen in
        test_same (is_marked p seen) (is_member position seen) (λ t. subst (λ (q : ℕ). T (is_member q seen)) up (same.0 t)) (λ t. same.1 (subst (λ (q : ℕ). T (is_member q seen)) (sym up) t))

    -- one that gives a position one is, where that is marked
    pub again_at : again_fault seen rule ≡ fault_if (is_marked p seen) 27 (λ _. 0)
    unfolding started_by again_fault
    again_at = go rule is
      where
        go : (r : Rule) → p + 1 ≡ started_by r → again_fault seen r ≡ fault_if (is_marked p seen) 27 (λ _. 0)
        go (clause atoms) e = absurd (omega arith)
        go (equality m ps) e = absurd (omega arith)
        go (starting a) e = ap (λ b. fault_if b 27 (λ _. 0)) (sym (marked-seen a.position e))
        go (at_most k m ps) e = absurd (omega arith)

    -- with it its position is seen
    pub seen_at : with_mark p seen ≡ seen_with rule seen
    unfolding started_by seen_with with_position with_mark
    seen_at = go rule is
      where
        go : (r : Rule) → p + 1 ≡ started_by r → with_mark p seen ≡ seen_with r seen
        go (clause atoms) e = absurd (omega arith)
        go (equality m ps) e = absurd (omega arith)
        go (starting a) e = let index : p ≡ a.position - 1 = omega arith in ap (λ (q : ℕ). with_mark q seen) index
        go (at_most k m ps) e = absurd (omega arith)

-- a field that gives no position a starting set leaves the positions seen
pub seen_still : (bytes : List ℕ) (seen : ℕ) → StartThere bytes → started_by (rule_at bytes) ≡ 0 → seen ≡ seen_with (rule_at bytes) seen
unfolding head_of seen_with rule_of
seen_still bytes seen there none = go (tag_of (head_of bytes).tag) refl
  where
    other : {kind : Tag} → tag_of (head_of bytes).tag ≡ kind → seen ≡ seen_with (rule_of kind (head_of bytes).length (drop 3 bytes)) seen → seen ≡ seen_with (rule_at bytes) seen
    other e same = same ∙ sym (ap (λ (r : Rule). seen_with r seen) (rule_is bytes (sym e)))

    go : (kind : Tag) → tag_of (head_of bytes).tag ≡ kind → seen ≡ seen_with (rule_at bytes) seen
    go Header e = other e refl
    go Clause e = other e refl
    go Equality e = other e refl
    go Starting e = absurd (omega (arith, there.position e, started_is bytes (sym e) refl, none))
    go AtMost e = other e refl
    go Unknown e = other e refl
