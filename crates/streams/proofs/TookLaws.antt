-- The bytes of an input that was taken whole are a part of the buffer: `whole_part`. Callers' proofs of `&buf[..n]` cite it. Assumes nothing.
use mathlib.Core.Path.{◌≡◌, sym}
use mathlib.Core.List.{List}
use Prim.Native.Nat.{ℕ, ◌≤◌}
use native.Mathlib.Omega.{arith}
use lib.ListN.{length, take}
use lib.Seq.{length-take-le}
use Rattle.std.specs.Prelude.{Result, Ok}
use Rattle.streams.specs.declared.NotWhole.{NotWhole}
use Rattle.streams.specs.Promise.{Took}

-- they are no more than the buffer has, and as many as the part of it has
pub whole_part : (buffer : List ℕ) (n : ℕ) (r : Result ℕ NotWhole) → Took buffer r → r ≡ Ok n → (n ≤ length buffer) × (n ≡ length (take n buffer))
whole_part buffer n r took whole = let less = took n whole in (omega arith, sym (length-take-le n buffer (omega arith)))
