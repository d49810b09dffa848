-- Any two results that the promise of `src/` allows are equal. Assumes nothing.
use mathlib.Core.Path.{◌≡◌}
use mathlib.Core.List.{List}
use Prim.Native.Nat.{ℕ}
use Rattle.sets.proofs.Unique.{one-result}
use Rattle.rules.specs.declared.field.Tag.{Tag}
use Rattle.rooms.specs.Held.{Held}
use Rattle.lowest.specs.Promise.{LowestByKind}

pub lowest_by_kind_unique : (rooms : Held) (content : List ℕ) (kind : Tag) (bound : ℕ) {r s : ℕ} → LowestByKind rooms content kind bound r → LowestByKind rooms content kind bound s → r ≡ s
lowest_by_kind_unique rooms content kind bound p q = one-result p q
