-- Laws of the number of positions of a file: what a check tells of it. Assumes nothing.
use mathlib.Core.Path.{◌≡◌, sym, ap, ◌∙◌}
use Prim.Native.Nat.{ℕ}
use Rattle.rules.specs.Reading.{Reading}
use Rattle.sound.specs.Checked.{sound_with, refused_with, checked_of}
use Rattle.sound.proofs.CheckedLaws.{checked_refused, checked-sound}
use Rattle.lines.specs.Printed.{positions_of}

-- the number of positions of a file that a check finds sound
pub positions-sound : (r : Reading) (v n : ℕ) → checked_of r ≡ sound_with v n → v ≡ positions_of r
unfolding positions_of
positions-sound r v n e = let s = checked-sound r v n e in sym s.1 ∙ ap positions_of (sym s.0)

-- and of one that it refuses
pub positions-refused : (r : Reading) (number place : ℕ) → checked_of r ≡ refused_with number place → 0 ≡ positions_of r
unfolding positions_of
positions-refused r number place e = ap positions_of (sym (checked_refused r number place e))
