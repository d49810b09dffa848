-- Boxes that differ at idle positions alone, from a part of a rule up to shrinking: they are settled and shrunk in the same way (`settled_same`,
-- `shrunk-looks_same`). Assumes nothing.
use mathlib.Core.Path.{◌≡◌, refl, sym, subst}
use mathlib.Core.Bool.{Bool, true, false}
use mathlib.Core.List.{List}
use Prim.Native.Nat.{ℕ, zero, suc}
use native.Mathlib.Omega.{arith}
use Rattle.lists.proofs.TestLaws.{test_same}
use Rattle.rules.specs.Rules.{Rule, Field}
use Rattle.rules.specs.Parts.{Part, one_of, no_more_than, parts_of}
use Rattle.steps.specs.Boxes.{open_values}
use Rattle.steps.specs.Shrinking.{alive, look_part, look_rule, look_field, round, same_rooms, shrink, shrunk, settled_part, settled_rule, settled}
use Rattle.steps.proofs.Boxes.BoxLaws.{box-inside-length, same_rooms_iff}
use Rattle.steps.proofs.Boxes.BoxSizes.{open-inside}
use Rattle.steps.proofs.Looks.FittingRules.{Fits, FieldsFit}
use Rattle.steps.proofs.Looks.PartLaws.{PartFits, part-inside}
use Rattle.steps.proofs.Looks.RuleLaws.{LiveUnsettled, LiveInRule, rule-inside}
use Rattle.steps.proofs.Looks.ShrinkLaws.{LiveInFields, round-inside, shrink-enough}
use Rattle.steps.proofs.Looks.Idle.ButForIdle.{SameWay, SameLooks, both-dead, both-alive, same_way_stay, same-looks_on, unchanged_together, still_but_for_idle}
use Rattle.steps.proofs.Looks.Idle.ButForIdle.{StaysIdle, StaysLive, SameSettled, LooksSame, all_stay_idle, some_stay_live, all_same-settled, in_turn_same}
use Rattle.steps.proofs.Looks.Idle.AtMost.{at_most_stays_idle, at_most_stays_live, at_most_same-settled, at_most-looks_same}
use Rattle.steps.proofs.Looks.Idle.Clauses.{clause_stays_idle, clause_stays_live, clause_same-settled, clause-looks_same}

-- ---- a part, for each kind of part by the laws of that kind

part_stays_idle : (part : Part) → StaysIdle (LiveUnsettled part)
part_stays_idle (one_of atoms) = clause_stays_idle atoms
part_stays_idle (no_more_than k m ps) = at_most_stays_idle m ps k

part_stays_live : (part : Part) → StaysLive (λ v. PartFits v part) (LiveUnsettled part)
part_stays_live (one_of atoms) = clause_stays_live atoms
part_stays_live (no_more_than k m ps) = at_most_stays_live m ps k

part_same-settled : (part : Part) → SameSettled (λ v. PartFits v part) (LiveUnsettled part) (λ box. settled_part box part)
part_same-settled (one_of atoms) = clause_same-settled atoms
part_same-settled (no_more_than k m ps) = at_most_same-settled m ps k

part-looks_same : (place : ℕ) (part : Part) → LooksSame (λ v. PartFits v part) (LiveUnsettled part) (look_part place part)
part-looks_same place (one_of atoms) = clause-looks_same atoms place
part-looks_same place (no_more_than k m ps) = at_most-looks_same m ps k place

-- ---- a rule, from those of its parts

module _ (rule : Rule) where
  rule_stays_idle : StaysIdle (LiveInRule rule)
  rule_stays_idle = all_stay_idle LiveUnsettled part_stays_idle (parts_of rule)

  rule_stays_live : StaysLive (λ v. Fits v rule) (LiveInRule rule)
  rule_stays_live b c fits = some_stay_live LiveUnsettled PartFits part_stays_live (parts_of rule) b c fits.1

  rule_same-settled : SameSettled (λ v. Fits v rule) (LiveInRule rule) (λ box. settled_rule box rule)
  rule_same-settled b c fits = all_same-settled LiveUnsettled PartFits settled_part part_same-settled (parts_of rule) b c fits.1

  rule-looks_same : (place : ℕ) → LooksSame (λ v. Fits v rule) (LiveInRule rule) (look_rule place rule)
  rule-looks_same place b c fits = in_turn_same LiveUnsettled PartFits (look_part place) (part-inside place) part_stays_idle (part-looks_same place) (parts_of rule) b c fits.1

module _ (fields : List Field) where
  -- ---- the fields of a file

  -- a position that is idle in a box is idle in every smaller one
  pub fields_stay_idle : StaysIdle (LiveInFields fields)
  fields_stay_idle = all_stay_idle (λ f. LiveInRule f.rule) (λ f. rule_stays_idle f.rule) fields

  -- where two boxes differ at idle positions alone, the same positions are live in parts that are not settled
  pub fields_stay_live : StaysLive (λ v. FieldsFit v fields) (LiveInFields fields)
  fields_stay_live = some_stay_live (λ f. LiveInRule f.rule) (λ v f. Fits v f.rule) (λ f. rule_stays_live f.rule) fields

  -- both boxes are settled or neither is
  pub settled_same : SameSettled (λ v. FieldsFit v fields) (LiveInFields fields) (settled fields)
  settled_same = all_same-settled (λ f. LiveInRule f.rule) (λ v f. Fits v f.rule) (λ box f. settled_rule box f.rule) (λ f. rule_same-settled f.rule) fields

  -- a round of both finds the same
  round-looks_same : LooksSame (λ v. FieldsFit v fields) (LiveInFields fields) (round fields)
  round-looks_same =
      in_turn_same (λ f. LiveInRule f.rule) (λ v f. Fits v f.rule) look_field (λ f. rule-inside f.place f.rule) (λ f. rule_stays_idle f.rule)
      (λ f. rule-looks_same f.rule f.place) fields

  -- ---- shrinking

  -- as many rounds of both find the same
  shrink-looks_same : (k : ℕ) → LooksSame (λ v. FieldsFit v fields) (LiveInFields fields) (shrink k fields)
  unfolding shrink
  shrink-looks_same zero b c fits h = both-alive b c refl refl (same_way_stay b c)
  shrink-looks_same (suc k) b c fits h = go (shrink-looks_same k) (round-looks_same b c fits h)
    where
      tested : LooksSame (λ v. FieldsFit v fields) (LiveInFields fields) (shrink k fields) → (b' c' : List ℕ) → round fields b ≡ alive b' → round fields c ≡ alive c'
          → SameWay b c b' c' → (t : Bool) → same_rooms b' b ≡ t → same_rooms c' c ≡ t → SameLooks b c (shrink (suc k) fields b) (shrink (suc k) fields c)
      tested rest b' c' e f way true t u = rw (e, f, t, u) (both-alive b' c' refl refl way)
      tested rest b' c' e f way false t u =
          let ib = round-inside fields b b' h.larger e in
          let ic = round-inside fields c c' h.smaller f in
          let fit = subst (λ (v : ℕ). FieldsFit v fields) (sym (box-inside-length b' b ib.0)) fits in
          rw (e, f, t, u) (same-looks_on way (rest b' c' fit (still_but_for_idle fields_stay_idle h ib ic way)))

      go : LooksSame (λ v. FieldsFit v fields) (LiveInFields fields) (shrink k fields) → SameLooks b c (round fields b) (round fields c)
          → SameLooks b c (shrink (suc k) fields b) (shrink (suc k) fields c)
      go rest (both-dead place e f) = rw (e, f) (both-dead place refl refl)
      go rest (both-alive b' c' e f way) =
          let lb = box-inside-length b' b (round-inside fields b b' h.larger e).0 in
          let lc = box-inside-length c' c (round-inside fields c c' h.smaller f).0 in
          let both = unchanged_together b c b' c' way lb lc in
          let in_b = same_rooms_iff b' b in
          let in_c = same_rooms_iff c' c in
          let same = test_same (same_rooms c' c) (same_rooms b' b) (λ t. in_b.1 (both.1 (in_c.0 t))) (λ t. in_c.1 (both.0 (in_b.0 t))) in
          tested rest b' c' e f way (same_rooms b' b) refl same

  -- both boxes shrink in the same way
  pub shrunk-looks_same : LooksSame (λ v. FieldsFit v fields) (LiveInFields fields) (shrunk fields)
  unfolding shrunk
  shrunk-looks_same b c fits h =
      let fewer = open-inside c b h.smaller h.larger h.inside in
      let enough = shrink-enough fields c (suc (open_values b)) (suc (open_values c)) h.smaller (omega arith) (omega arith) in
      subst (SameLooks b c (shrunk fields b)) enough (shrink-looks_same (suc (open_values b)) b c fits h)
