-- What is said of an input: by the definition of reading, and by the answer of a check. Assumes nothing.
use Rattle.std.specs.Prelude.{ℕ, ◌≡◌, List, Result, Ok, Err, get_or}
use Rattle.rules.specs.Fault.{number_of}
use Rattle.rules.specs.Reading.{Reading, sound, refused}
use Rattle.sound.specs.declared.check.Limits.{Limits}
use Rattle.sound.specs.declared.check.Refused.{Refused}

-- v and n of a sound file, or the number of the first fault and the place of its field
pub data Checked : Type 0 where
  sound_with : ℕ → ℕ → Checked
  refused_with : ℕ → ℕ → Checked

-- of what was read: v and n of the file, or the refusal
unfoldable pub checked_of : Reading → Checked
checked_of (sound file) = sound_with file.v file.n
checked_of (refused number place) = refused_with number place

-- of an answer
abbrev pub told_of : Result Limits Refused → Checked
told_of (Ok limits) = sound_with limits.positions limits.values
told_of (Err refusal) = refused_with (number_of refusal.fault) refusal.place

-- the limits are those that stand in the header
abbrev pub LimitsIn : List ℕ → Limits → Type 0
LimitsIn input limits = (limits.positions ≡ get_or input 3 0) × (limits.values ≡ get_or input 4 0)
