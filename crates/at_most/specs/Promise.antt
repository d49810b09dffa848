-- What the public functions of `src/` promise. Their contracts and the theorems that each allows one result cite these. Assumes nothing.
use Rattle.std.specs.Prelude.{◌≡◌, Bool, false, List, ℕ, length}
use Rattle.rules.specs.declared.field.Tag.TheVariants.{AtMost}
use Rattle.rules.specs.Rules.{at_most}
use Rattle.rules.specs.Reading.{rule_of}
use Rattle.steps.specs.Shrinking.{look_rule, settled_rule}
use Rattle.rooms.specs.Held.{Held}
use Rattle.rooms.specs.Looks.{Leaves}
use Rattle.at_most.specs.declared.rule.AtMostRule.{AtMostRule}

-- `AtMostRule::of`: the rule of these bytes
abbrev pub ReadsAtMost : List ℕ → AtMostRule → Type 0
ReadsAtMost content r = at_most r.most r.set r.positions.now ≡ rule_of AtMost (length content) content

-- `look_at_most`: what a look at the rule of these bytes leaves, and where it is dead the rooms as they were
pub record LooksAtMost (before : Held) (content : List ℕ) (r : Bool) (after : Held) : Type 0 where
  pub leaves : Leaves look_rule (rule_of AtMost (length content) content) before r after
  pub kept : r ≡ false → after ≡ before

-- `settled_at_most`: whether the rule of these bytes is settled
abbrev pub SettlesAtMost : Held → List ℕ → Bool → Type 0
SettlesAtMost rooms content r = r ≡ settled_rule rooms.box (rule_of AtMost (length content) content)
