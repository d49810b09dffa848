-- Any two results that the promise of `src/` allows are equal. Assumes nothing.
use mathlib.Core.Path.{◌≡◌}
use mathlib.Core.List.{List}
use Prim.Native.Nat.{ℕ}
use Rattle.std.specs.Prelude.{Option}
use Rattle.sets.proofs.Unique.{one-result}
use Rattle.rooms.specs.Held.{Held}
use Rattle.choosing.specs.Promise.{Chooses}

pub choose_unique : (input : List ℕ) (rooms : Held) {r s : Option ℕ} → Chooses input rooms r → Chooses input rooms s → r ≡ s
choose_unique input rooms p q = one-result p q
