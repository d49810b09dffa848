-- A file with more rules behind its own (R-14). Assumes nothing.
use Rattle.std.specs.Prelude.{List, ◌++◌}
use Rattle.rules.specs.Rules.{Rule, File}

-- the same positions and values, the rules of the file in their order, and the new ones behind them
unfoldable pub added : File → List Rule → File
added file more = record { v = file.v; n = file.n; rules = file.rules ++ more }
