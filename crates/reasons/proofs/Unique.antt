-- Any two texts that the promise of `reason` allows are equal. Assumes nothing.
use mathlib.Core.Path.{◌≡◌}
use Prim.Native.Nat.{ℕ}
use Rattle.sets.proofs.Unique.{one-result}
use Rattle.texts.specs.declared.Text.{Text}
use Rattle.reasons.specs.Words.{Reasoned}

-- `reason`
pub reason_unique : (number place : ℕ) {r s : Text} → Reasoned number place r → Reasoned number place s → r ≡ s
reason_unique number place p q = one-result p q
