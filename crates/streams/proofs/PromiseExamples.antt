-- What the promises of `take_whole` and `put` allow and what they do not, by example: a buffer of 16 bytes. Assumes nothing.
use mathlib.Core.Path.{◌≡◌, refl}
use mathlib.Core.List.{List}
use Prim.Native.Nat.{ℕ}
use native.Mathlib.Omega.{arith}
use lib.ListN.{replicate}
use Rattle.std.specs.Prelude.{Ok}
use Rattle.streams.specs.Promise.{Took, Put}

-- the buffer
abbrev buffer : List ℕ
buffer = replicate 16 0

-- 15 bytes are whole
pub example_took : Took buffer (Ok 15)
example_took n e = let same : 15 ≡ n = cc in omega arith

-- 16 are not: a full buffer may not hold all of the input
pub example_took-full : Took buffer (Ok 16) → ⊥
example_took-full took = let less = took 16 refl in omega arith

-- 16 bytes may all be written, and 17 may not
pub example-put : Put buffer 16 (Ok tt) × (Put buffer 17 (Ok tt) → ⊥)
example-put = (λ e. omega arith, λ put. let most = put refl in omega arith)
