-- Any two replies and later buffers that the promise allows are equal, and any two answers of `rounds_most`. Assumes nothing.
use mathlib.Core.Path.{◌≡◌}
use mathlib.Core.List.{List}
use Prim.Native.Nat.{ℕ}
use Rattle.sets.proofs.Unique.{one-result}
use Rattle.searching.specs.declared.reply.Reply.{Reply}
use Rattle.searching.proofs.AnsweredLaws.{answered_unique}
use Rattle.planner.specs.Promise.{Planned}
use Rattle.planner.specs.Most.{RoundsMost}

-- two replies that the promise allows are the same, and so are the buffers
pub plan_unique : (input before after after' : List ℕ) (allowed : ℕ) (r s : Reply) → Planned input before after allowed r → Planned input before after' allowed s
    → (r ≡ s) × (after ≡ after')
plan_unique input before after after' allowed r s p q = answered_unique p.answered q.answered

-- two answers are the same number
pub most_unique : (input : List ℕ) (r s : ℕ) → RoundsMost input r → RoundsMost input s → r ≡ s
most_unique input r s p q = one-result p.exactly q.exactly
