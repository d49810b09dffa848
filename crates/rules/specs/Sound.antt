-- Sound inputs: bytes that are a file, and the fields of that file, each where it stands. Assumes nothing.
use Rattle.std.specs.Prelude.{ℕ, ◌≤◌, ◌<◌, ◌≡◌, List, [], length, get_or, drop}
use Rattle.rules.specs.Rules.{Field, File}
use Rattle.rules.specs.Reading.{Reading, sound, refused, rule_at, reading}
use Rattle.rules.specs.Writing.{tag_byte, fields_of}

-- the file that was read, and a file with nothing in it where the bytes were refused
unfoldable pub file_of : Reading → File
file_of (sound file) = file
file_of (refused number place) = record { v = 0; n = 0; rules = [] }

-- the fields of the file that the bytes are
unfoldable pub fields_in : List ℕ → List Field
fields_in s = fields_of (file_of (reading s))

-- the bytes are a sound file of v positions
pub record SoundInput (s : List ℕ) (v : ℕ) : Type 0 where
  pub read : reading s ≡ sound (file_of (reading s))
  pub positions : (file_of (reading s)).v ≡ v

-- a field stands in the bytes at its place: behind the header, within the bytes, the tag byte of its rule is there, and from there on its rule is read
pub record StandsIn (s : List ℕ) (f : Field) : Type 0 where
  pub behind : 5 ≤ f.place
  pub within : f.place < length s
  pub tag : get_or s f.place 0 ≡ tag_byte f.rule
  pub rule : rule_at (drop f.place s) ≡ f.rule
