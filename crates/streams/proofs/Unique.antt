-- Any two answers that the promise of `after` allows are equal. `take_whole`, `turn` and `put` have no such theorem: what is read and written is no value of the call. Assumes nothing.
use mathlib.Core.Path.{◌≡◌, sym, ◌∙◌}
use Prim.Native.Nat.{ℕ}
use Rattle.std.specs.Prelude.{Result}
use Rattle.std.specs.declared.io.Error.{Error}
use Rattle.streams.specs.declared.Next.{Next}
use Rattle.streams.specs.declared.NotWhole.{NotWhole}
use Rattle.streams.specs.Turn.{After}

-- what follows from a read is one thing
pub after_unique : (answer : Result ℕ Error) (done room : ℕ) {r s : Result Next NotWhole} → After answer done room r → After answer done room s → r ≡ s
after_unique answer done room p q = p ∙ sym q
