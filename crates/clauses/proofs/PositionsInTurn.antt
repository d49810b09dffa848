-- The positions that the first so many bytes name, one by one. Assumes nothing.
use mathlib.Core.Path.{subst}
use Prim.Native.Nat.{ℕ, ◌<◌}
use mathlib.Core.List.{List}
use native.Mathlib.Omega.{arith}
use lib.ListN.{get_or, take, length-take}
use lib.Seq.{get_or-take}
use Rattle.rules.specs.Contents.{Positions}
use Rattle.rules.specs.Writing.{PositionFits}
use Rattle.lists.proofs.ListLaws.{every_at-place}

-- the position at an index is one from 1 to v
pub position_fits : {v count : ℕ} {bytes : List ℕ} → Positions v count bytes → (i : ℕ) → i < count → PositionFits v (get_or bytes i 0)
position_fits {v} {count} {bytes} positions i h =
    subst (PositionFits v) (get_or-take count bytes i 0 h)
    (every_at-place (PositionFits v) (take count bytes) i positions.fit (omega (arith, length-take count bytes, positions.there)))
