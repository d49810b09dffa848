-- The six laws of a rule, from those of its parts. What stands above looks at no rule, and goes by these. Assumes nothing.
use mathlib.Core.Path.{◌≡◌, refl}
use mathlib.Core.Logic.Iff
use mathlib.Core.Logic.{◌↔◌}
use mathlib.Core.Bool.{Bool, true, false}
use mathlib.Core.List.{List}
use Prim.Native.Nat.{ℕ}
use Rattle.lists.proofs.TestLaws.{true_test}
use Rattle.lists.specs.Lists.{Some}
use Rattle.rules.specs.Rules.{Rule}
use Rattle.rules.specs.Meaning.{Meets}
use Rattle.rules.specs.Parts.{Part, MeetsPart, parts_of}
use Rattle.rules.proofs.EqualityMeaning.{rule_means-parts}
use Rattle.steps.specs.Shrinking.{look_part, look_rule, settled_part, settled_rule}
use Rattle.steps.proofs.Looks.SixLaws.{Sound, Inward, Settling, Steady, Monotone, NotLive, Names}
use Rattle.steps.proofs.Looks.PartLaws.{PartFits, LiveInPart, part_sound, part-inside, part-settled, part_steady, part_monotone, part-not_live, part-place}
use Rattle.steps.proofs.Looks.FittingRules.{Fits}
use Rattle.steps.proofs.Looks.InTurn.{in_turn-sound, in_turn_inward, all_settled, in_turn_steady, in_turn_monotone, all-not_live, in_turn-place}

-- p is a position of the box that is live in the part, which is not settled
abbrev pub LiveUnsettled : Part → List ℕ → ℕ → Type 0
LiveUnsettled part box p = (settled_part box part ≡ false) × LiveInPart part box p

-- p is a position of the box that is live in some part of the rule that is not settled
abbrev pub LiveInRule : Rule → List ℕ → ℕ → Type 0
LiveInRule rule box p = Some (λ part. LiveUnsettled part box p) (parts_of rule)

-- two assignments of the box that agree where the part is live both meet it or both do not; where it is settled, both meet it
unsettled-not_live : (part : Part) → NotLive (λ v. PartFits v part) (λ a. MeetsPart a part) (LiveUnsettled part)
unsettled-not_live part box a b fits ha hb same = go (settled_part box part) refl
  where
    go : (s : Bool) → settled_part box part ≡ s → MeetsPart a part ↔ MeetsPart b part
    go true e = let t = true_test (settled_part box part) e in (λ m. part-settled part box b fits t hb, λ m. part-settled part box a fits t ha)
    go false e = part-not_live part box a b fits ha hb (λ p l. same p (e, l))

module _ (place : ℕ) (rule : Rule) where
  -- sound: an assignment of the box that meets the rule is still in the box after the look, which is not dead
  pub rule-sound : Sound (λ v. Fits v rule) (λ a. Meets a rule) (look_rule place rule)
  rule-sound box a rooms fits h m =
      in_turn-sound PartFits MeetsPart (look_part place) (part-inside place) (part_sound place) (parts_of rule)
      box a rooms fits.1 h ((rule_means-parts a rule fits.0).0 m)

  -- inside: the box after the look lies inside the box before, and no room becomes empty
  pub rule-inside : Inward (look_rule place rule)
  rule-inside = in_turn_inward (look_part place) (part-inside place) (parts_of rule)

  -- steady: where the look changes nothing and the rule is not settled, a position live in a part that is not settled has two or more values
  pub rule_steady : Steady (λ v. Fits v rule) (LiveInRule rule) (look_rule place rule) (λ box. settled_rule box rule)
  rule_steady box rooms fits e u =
      in_turn_steady PartFits LiveUnsettled (look_part place) settled_part (part-inside place)
      (λ part b r f c d. let s = part_steady place part b r f c d in (s.0, (d, s.1), s.2, s.3, s.4)) (parts_of rule) box rooms fits.1 e u

  -- monotone: a smaller box gives a smaller result, and where the larger is dead so is the smaller
  pub rule_monotone : Monotone (look_rule place rule)
  rule_monotone = in_turn_monotone (look_part place) (part-inside place) (part_monotone place) (parts_of rule)

  -- a dead look names the place that it was given
  pub rule-place : Names place (look_rule place rule)
  rule-place = in_turn-place (look_part place) place (part-place place) (parts_of rule)

module _ (rule : Rule) where
  -- settled: every assignment of a settled box meets the rule
  pub rule-settled : Settling (λ v. Fits v rule) (λ a. Meets a rule) (λ box. settled_rule box rule)
  rule-settled box a fits t h =
      (rule_means-parts a rule fits.0).1 (all_settled PartFits MeetsPart settled_part part-settled (parts_of rule) box a fits.1 t h)

  -- not live: two assignments of the box that agree at every position live in a part that is not settled both meet the rule or both do not
  pub rule-not_live : NotLive (λ v. Fits v rule) (λ a. Meets a rule) (LiveInRule rule)
  rule-not_live box a b fits ha hb same =
      Iff.trans (rule_means-parts a rule fits.0)
      (Iff.trans (all-not_live PartFits MeetsPart LiveUnsettled unsettled-not_live (parts_of rule) box a b fits.1 ha hb same)
      (Iff.symm (rule_means-parts b rule fits.0)))
