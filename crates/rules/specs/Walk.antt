-- A walk over the fields of a sound input, from the header to the end. The contracts of loops over a file and their proofs cite it. Assumes nothing.
use Rattle.std.specs.Prelude.{ℕ, ◌≤◌, ◌≡◌, List, length, drop}
use Rattle.rules.specs.Rules.{Rule, Field}
use Rattle.rules.specs.Reading.{sound, read_fields, reading}
use Rattle.rules.specs.Writing.{placed}
use Rattle.rules.specs.Sound.{file_of}

-- from `at` on the bytes of the sound input s, a file of v positions, are the fields `left`; the positions seen have a starting set in front of them
pub record Walk (s : List ℕ) (v at : ℕ) (left : List Field) : Type 0 where
  pub few : v ≤ 64
  pub within : at ≤ length s
  pub seen : ℕ
  pub rules : List Rule
  pub read : read_fields (length s) v (file_of (reading s)).n seen at (drop at s) ≡ sound (record { v = v; n = (file_of (reading s)).n; rules = rules })
  pub fields : left ≡ placed at rules
