-- The promises of `take_whole` and `put`. They do not say what is read and written, so each answer that a promise allows is right for some input or output. Assumes nothing.
use Rattle.std.specs.Prelude.{ℕ, ◌<◌, ◌≤◌, ◌≡◌, List, length, Result, Ok, IsOk}
use Rattle.std.specs.declared.io.Error.{Error}
use Rattle.streams.specs.declared.NotWhole.{NotWhole}

-- an input that was taken whole is shorter than the buffer
abbrev pub Took : List ℕ → Result ℕ NotWhole → Type 0
Took buffer r = (n : ℕ) → r ≡ Ok n → n < length buffer

-- only bytes that are there were all written
abbrev pub Put : List ℕ → ℕ → Result Unit Error → Type 0
Put bytes len r = IsOk r → len ≤ length bytes
