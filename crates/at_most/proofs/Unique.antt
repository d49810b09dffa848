-- Any two results that a promise of `src/` allows are equal, for each public function. Assumes nothing.
use mathlib.Core.Path.{◌≡◌}
use mathlib.Core.Bool.{Bool}
use mathlib.Core.List.{List}
use Prim.Native.Nat.{ℕ}
use lib.ListN.{length}
use Rattle.sets.proofs.Unique.{one-result}
use Rattle.rules.specs.declared.field.Tag.TheVariants.{AtMost}
use Rattle.rules.specs.Reading.{rule_of}
use Rattle.steps.specs.Shrinking.{look_rule}
use Rattle.rooms.specs.Held.{Held}
use Rattle.rooms.proofs.LookLaws.{after_unique}
use Rattle.at_most.specs.declared.rule.AtMostRule.{AtMostRule}
use Rattle.at_most.specs.Promise.{ReadsAtMost, LooksAtMost, SettlesAtMost}

-- of `AtMostRule::of`: the count, the set and the positions
pub at_most_of_unique : (content : List ℕ) (r s : AtMostRule) → ReadsAtMost content r → ReadsAtMost content s → (r.most ≡ s.most) × (r.set ≡ s.set) × (r.positions.now ≡ s.positions.now)
at_most_of_unique content r s p q = (cc, cc, cc)

-- of `look_at_most`: the answer and the rooms
pub look_at_most_unique : (before : Held) (content : List ℕ) {r s : Bool} {after last : Held} → LooksAtMost before content r after → LooksAtMost before content s last
    → (r ≡ s) × (after ≡ last)
look_at_most_unique before content p q = after_unique (look_rule 0 (rule_of AtMost (length content) content) before.box) before before.rest (p.leaves.by 0) (q.leaves.by 0) p.kept q.kept

-- of `settled_at_most`
pub settled_at_most_unique : (rooms : Held) (content : List ℕ) {r s : Bool} → SettlesAtMost rooms content r → SettlesAtMost rooms content s → r ≡ s
settled_at_most_unique rooms content p q = one-result p q
