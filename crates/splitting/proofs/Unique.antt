-- Any two results that a promise of `src/` allows are equal, for each public function. Assumes nothing.
use mathlib.Core.Path.{◌≡◌}
use mathlib.Core.List.{List}
use Prim.Native.Nat.{ℕ}
use Rattle.rooms.specs.Held.{Held}
use Rattle.sets.proofs.Unique.{one-result}
use Rattle.splitting.specs.declared.halves.Half.{Half}
use Rattle.splitting.specs.Promise.{KeepsHalf, WritesSmallest}

pub keep_half_unique : (half : Half) (before : Held) (i : ℕ) {after last : Held} → KeepsHalf half before i after → KeepsHalf half before i last → after ≡ last
keep_half_unique half before i p q = one-result p q

pub write-smallest_unique : (rooms : Held) (before : List ℕ) {after last : List ℕ} → WritesSmallest rooms before after → WritesSmallest rooms before last → after ≡ last
write-smallest_unique rooms before p q = one-result p q
