-- Any two results that the promise of `check` allows are equal. Assumes nothing.
use mathlib.Core.Path.{◌≡◌, sym, ◌∙◌}
use mathlib.Core.List.{List}
use Prim.Native.Nat.{ℕ}
use Rattle.std.specs.Prelude.{Result}
use Rattle.sound.specs.declared.check.Limits.{Limits}
use Rattle.sound.specs.declared.check.Refused.{Refused}
use Rattle.sound.specs.Promise.{Checks}
use Rattle.sound.proofs.CheckedLaws.{same_answer}

-- the answer of `check`
pub check_unique : (input : List ℕ) {r s : Result Limits Refused} → Checks input r → Checks input s → r ≡ s
check_unique input {r} {s} p q = same_answer r s (p ∙ sym q)
