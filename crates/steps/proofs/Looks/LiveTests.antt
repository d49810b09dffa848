-- The test whether a position is live in something that is not settled, in words. Assumes nothing.
use mathlib.Core.Logic.Iff
use mathlib.Core.Logic.{◌↔◌, ⊎_elim}
use mathlib.Core.Bool.{Bool, not}
use mathlib.Core.List.{List, [], ◌∷◌}
use Prim.Native.Nat.{ℕ, ◌≤◌}
use lib.Dec.{T, T_not}
use lib.ListN.{length}
use Rattle.lists.specs.Lists.{Some}
use Rattle.lists.proofs.ListLaws.{listed_of_some, some_same, either_same}
use Rattle.lists.proofs.TestLaws.{both_hold, either_holds, fails_false}
use Rattle.rules.specs.Rules.{Rule, Field}
use Rattle.rules.specs.Parts.{Part, parts_of}
use Rattle.steps.specs.Boxes.{room_at}
use Rattle.steps.specs.Shrinking.{is_live_in, settled_part, all_of, settled_rule, settled, some_of, live_unsettled, live_in_rule, live_in_fields}
use Rattle.steps.proofs.Looks.RuleLaws.{LiveUnsettled, LiveInRule}
use Rattle.steps.proofs.Looks.ShrinkLaws.{LiveInFields}

-- some of a list pass a test
pub some_of_holds : {A : Type 0} (test : A → Bool) (xs : List A) → T (some_of test xs) ↔ Some (λ x. T (test x)) xs
unfolding some_of
some_of_holds test [] = Iff.rfl
some_of_holds test (x ∷ xs) = Iff.trans (either_holds (test x) (some_of test xs)) (either_same Iff.rfl (some_of_holds test xs))

-- where all of a list pass one test, none passes another that shuts it out
none_of_all : {A : Type 0} (a b : A → Bool) → ((x : A) → T (a x) → T (b x) → ⊥) → (xs : List A) → T (some_of a xs) → T (all_of b xs) → ⊥
unfolding some_of all_of
none_of_all a b apart [] s t = s
none_of_all a b apart (x ∷ xs) s t =
    let both = (both_hold (b x) (all_of b xs)).0 t in
    ⊎_elim (λ h. apart x h both.0) (λ h. none_of_all a b apart xs h both.1) ((either_holds (a x) (some_of a xs)).0 s)

-- in a settled box no position is live in anything that is not settled
pub settled-none_live : (fields : List Field) (box : List ℕ) (p : ℕ) → T (settled fields box) → T (live_in_fields fields box p) → ⊥
settled-none_live fields box p t s =
    none_of_all (λ f. live_in_rule box p f.rule) (λ f. settled_rule box f.rule)
    (λ f. none_of_all (live_unsettled box p) (settled_part box)
    (λ part l. T_not (settled_part box part) ((both_hold (is_live_in part p (room_at box p)) (not (settled_part box part))).0 l).1) (parts_of f.rule)) fields s t

-- a position that is live in some part is one of the box
pub live-in_range : (fields : List Field) (box : List ℕ) (p : ℕ) → LiveInFields fields box p → (1 ≤ p) × (p ≤ length box)
live-in_range fields box p l =
    let field = listed_of_some (λ f. LiveInRule f.rule box p) fields l in
    let part = listed_of_some (λ q. LiveUnsettled q box p) (parts_of field.0.rule) field.2 in
    (part.2.1.0, part.2.1.1)

module _ (box : List ℕ) (p : ℕ) (low : 1 ≤ p) (high : p ≤ length box) where
  -- live in a part that is not settled
  live_in_part : (part : Part) → T (live_unsettled box p part) ↔ LiveUnsettled part box p
  live_in_part part =
      let live = is_live_in part p (room_at box p) in
      let done = settled_part box part in (
        λ t. let both = (both_hold live (not done)).0 t in ((fails_false done).0 both.1, (low, high, both.0)),
        λ l. (both_hold live (not done)).1 (l.1.2, (fails_false done).1 l.0),
      )

  live_in_rule_lem : (rule : Rule) → T (live_in_rule box p rule) ↔ LiveInRule rule box p
  live_in_rule_lem rule =
      Iff.trans (some_of_holds (live_unsettled box p) (parts_of rule))
      (some_same (λ part. T (live_unsettled box p part)) (λ part. LiveUnsettled part box p) (parts_of rule) (λ part t. live_in_part part))

  -- live in a field's part that is not settled
  pub live_in_fields_lem : (fields : List Field) → T (live_in_fields fields box p) ↔ LiveInFields fields box p
  live_in_fields_lem fields =
      Iff.trans (some_of_holds (λ f. live_in_rule box p f.rule) fields)
      (some_same (λ f. T (live_in_rule box p f.rule)) (λ f. LiveInRule f.rule box p) fields (λ f t. live_in_rule_lem f.rule))
