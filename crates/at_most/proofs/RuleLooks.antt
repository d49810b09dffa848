-- What a look at "at most k" leaves of the rooms, by those that lie inside: `looks-dead`, `looks-cut` and `looks_same`; and when it is settled, `settles`. Assumes nothing.
use mathlib.Core.Path.{◌≡◌, refl, sym, ap, ◌∙◌, subst}
use mathlib.Core.Bool.{Bool, true, false, ◌&&◌, true≢false}
use mathlib.Core.List.{List}
use Prim.Native.Nat.{ℕ, ◌-◌, ◌<◌}
use native.Mathlib.Omega.{arith}
use lib.Dec.{leb}
use lib.ListN.{length, take, drop}
use Rattle.rules.specs.Contents.{PositionsFit, ContentFits}
use Rattle.rules.specs.declared.field.Tag.TheVariants.{AtMost}
use Rattle.rules.specs.Rules.{Rule, at_most}
use Rattle.rules.specs.Parts.{no_more_than, parts_of}
use Rattle.rules.specs.Reading.{rule_of}
use Rattle.steps.specs.Shrinking.{inside_count, meeting_count, cut_others, look_at_most, settled_at_most, look_part, look_rule, all_of, settled_rule}
use Rattle.steps.proofs.Looks.AtMostLaws.{look_too_many, look_just-enough, look-fewer}
use Rattle.steps.proofs.Looks.InTurn.{in_turn_one}
use Rattle.rooms.specs.Held.{Held, with_box}
use Rattle.rooms.specs.Looks.{Leaves}
use Rattle.rooms.proofs.LookLaws.{leaves-dead, leaves-box, leaves_same}
use Rattle.at_most.specs.Promise.{LooksAtMost}

-- a look at the rule is one at its one part
rule_look : (k m : ℕ) (ps : List ℕ) (place : ℕ) (box : List ℕ) → look_rule place (at_most k m ps) box ≡ look_at_most place k m ps box
unfolding parts_of
rule_look k m ps place box = in_turn_one (look_part place) (no_more_than k m ps) box

-- and it is settled where that is
pub rule-settled : (k m : ℕ) (ps box : List ℕ) → settled_rule box (at_most k m ps) ≡ settled_at_most box k m ps
unfolding parts_of all_of
rule-settled k m ps box = alone (settled_at_most box k m ps)
  where
    alone : (b : Bool) → b && true ≡ b
    alone true = refl
    alone false = refl

module _ (content : List ℕ) {k m : ℕ} {ps : List ℕ} (rule : at_most k m ps ≡ rule_of AtMost (length content) content) where
  -- its positions are those of rooms
  pub positions_fit : {v : ℕ} → ContentFits AtMost v (length content) content → PositionsFit v ps
  unfolding rule_of
  positions_fit {v} fits = subst (PositionsFit v) (sym same) fits.1.fit
    where
      same : ps ≡ take (length content - 5) (drop 5 content)
      same = cc

  module _ (rooms : Held) where
    -- what is left where the rule is written out is left of the bytes
    of-bytes : {r : Bool} {after : Held} → Leaves look_rule (at_most k m ps) rooms r after → Leaves look_rule (rule_of AtMost (length content) content) rooms r after
    of-bytes {r} {after} found = subst (λ (x : Rule). Leaves look_rule x rooms r after) rule found

    module _ {inside : ℕ} (counts : inside ≡ inside_count m ps rooms.box) where
      -- more rooms inside the set than the count: dead, and nothing has changed
      pub looks-dead : k < inside → LooksAtMost rooms content false rooms
      looks-dead more = record {
        leaves = of-bytes (leaves-dead look_rule (at_most k m ps) rooms (λ place. rule_look k m ps place rooms.box ∙ look_too_many place k m ps rooms.box (omega arith)));
        kept = λ e. refl;
      }

      -- just as many: the others are cut
      pub looks-cut : inside ≡ k → {after : Held} → after ≡ with_box (cut_others m ps rooms.box) rooms → LooksAtMost rooms content true after
      looks-cut e cut = record {
        leaves = of-bytes (leaves-box look_rule (at_most k m ps) rooms (λ place. rule_look k m ps place rooms.box ∙ look_just-enough place k m ps rooms.box (sym counts ∙ e)) cut);
        kept = λ f. absurd (true≢false f);
      }

      -- fewer: nothing changes
      pub looks_same : inside < k → LooksAtMost rooms content true rooms
      looks_same less = record {
        leaves = of-bytes (leaves_same look_rule (at_most k m ps) rooms (λ place. rule_look k m ps place rooms.box ∙ look-fewer place k m ps rooms.box (omega arith)));
        kept = λ f. refl;
      }

    -- it is settled where no more rooms meet the set than the count
    pub settles : {meeting : ℕ} → meeting ≡ meeting_count m ps rooms.box → leb meeting k ≡ settled_rule rooms.box (rule_of AtMost (length content) content)
    unfolding settled_at_most
    settles counts = ap (λ (n : ℕ). leb n k) counts ∙ sym (rule-settled k m ps rooms.box) ∙ ap (settled_rule rooms.box) rule
