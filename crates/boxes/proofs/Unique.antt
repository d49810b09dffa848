-- Any two results that the promise of `src/` allows are equal. Assumes nothing.
use mathlib.Core.Path.{◌≡◌}
use mathlib.Core.List.{List}
use Prim.Native.Nat.{ℕ}
use Rattle.sets.proofs.Unique.{one-result}
use Rattle.rooms.specs.Held.{Held}
use Rattle.boxes.specs.declared.shrink.Shrunk.{Shrunk}
use Rattle.boxes.specs.Promise.{Shrinks}

pub shrink_unique : (input : List ℕ) (before : Held) {r s : Shrunk} {after last : Held} → Shrinks input before r after → Shrinks input before s last → (r ≡ s) × (after ≡ last)
shrink_unique input before p q = (one-result p.answer q.answer, one-result p.rooms q.rooms)
