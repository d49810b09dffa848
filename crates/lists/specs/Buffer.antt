-- What a buffer holds after bytes are written to its front. The definitions of a text cite this. Assumes nothing.
use Rattle.std.specs.Prelude.{List, ◌++◌, length, drop}

-- the elements at the front of a buffer, and behind them what it had there
abbrev pub over : {A : Type 0} → List A → List A → List A
over xs buffer = xs ++ drop (length xs) buffer
