-- What the public function of `src/` promises. Its contract and the theorem that it allows one result cite this. Assumes nothing.
use Rattle.std.specs.Prelude.{ℕ, ◌≡◌, List, Result}
use Rattle.rules.specs.Reading.{reading}
use Rattle.sound.specs.declared.check.Limits.{Limits}
use Rattle.sound.specs.declared.check.Refused.{Refused}
use Rattle.sound.specs.Checked.{told_of, checked_of}

-- `check`: v and n of the file that the bytes are, or the refusal
abbrev pub Checks : List ℕ → Result Limits Refused → Type 0
Checks input r = told_of r ≡ checked_of (reading input)
