-- Laws of a look at one field: a look by its content is a look at its rule. Assumes nothing.
use mathlib.Core.Path.{◌≡◌, refl, sym, ap, ◌∙◌, subst}
use mathlib.Core.Bool.{Bool, true, false}
use mathlib.Core.List.{List, [], ◌∷◌}
use Prim.Native.Nat.{ℕ}
use lib.ListN.{length}
use Rattle.rules.specs.declared.field.Tag.{Tag}
use Rattle.rules.specs.declared.field.Tag.TheVariants.{Clause, Starting}
use Rattle.rules.specs.Each.{atoms_in}
use Rattle.rules.specs.Parts.{Part, one_of, parts_of}
use Rattle.rules.specs.Reading.{rule_of}
use Rattle.rules.proofs.Reading.ContentLaws.{start-parts}
use Rattle.steps.specs.Shrinking.{Look, look_clause, look_part, look_parts, look_rule}
use Rattle.steps.proofs.Looks.InTurn.{in_turn_one}
use Rattle.rooms.specs.Held.{Held}
use Rattle.rooms.specs.Looks.{AfterLook, Leaves}

module _ (content : List ℕ) {before : Held} {r : Bool} {after : Held} where
  -- what a look at the rule of a kind leaves, a look at the rule of that kind by another name leaves
  pub look-of : {kind : Tag} (known : Tag) → kind ≡ known → Leaves look_rule (rule_of known (length content) content) before r after
      → Leaves look_rule (rule_of kind (length content) content) before r after
  look-of known e found = subst (λ (k : Tag). Leaves look_rule (rule_of k (length content) content) before r after) (sym e) found

  -- a look at the one clause that a rule is, is a look at the rule
  one_part : (kind : Tag) → parts_of (rule_of kind (length content) content) ≡ one_of (atoms_in content) ∷ [] → Leaves look_clause (atoms_in content) before r after
      → Leaves look_rule (rule_of kind (length content) content) before r after
  one_part kind parts found = record {
    by = λ place.
        subst (λ (l : Look). AfterLook (λ _. false) true l r after before.rest)
        (sym (ap (λ (ps : List Part). look_parts place ps before.box) parts ∙ in_turn_one (look_part place) (one_of (atoms_in content)) before.box)) (found.by place);
  }

  -- so it is with a clause
  pub look_clause-of : {kind : Tag} → kind ≡ Clause → Leaves look_clause (atoms_in content) before r after → Leaves look_rule (rule_of kind (length content) content) before r after
  unfolding rule_of parts_of
  look_clause-of e found = look-of Clause e (one_part Clause refl found)

  -- and with a starting set, whose bytes are one atom
  pub look_start-of : {kind : Tag} → kind ≡ Starting → length content ≡ 5 → Leaves look_clause (atoms_in content) before r after
      → Leaves look_rule (rule_of kind (length content) content) before r after
  look_start-of e five found = look-of Starting e (one_part Starting (start-parts (length content) content five) found)
