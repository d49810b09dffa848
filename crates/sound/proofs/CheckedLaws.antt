-- What the answer of a check says of the reading: a refusal is the reading's own, `checked_refused`, and a sound file was read, `checked-sound`; and answers that say one thing are the same, `same_answer`. Assumes nothing.
use mathlib.Core.Path.{◌≡◌, refl}
use Prim.Native.Nat.{ℕ}
use Rattle.std.specs.Prelude.{Result, Ok, Err}
use Rattle.rules.specs.Reading.{Reading, sound, refused}
use Rattle.rules.specs.Fault.{number_of}
use Rattle.rules.specs.Sound.{file_of}
use Rattle.contents.proofs.FaultLaws.{same_fault}
use Rattle.sound.specs.declared.check.Limits.{Limits}
use Rattle.sound.specs.declared.check.Refused.{Refused}
use Rattle.sound.specs.Checked.{sound_with, refused_with, told_of, checked_of}

-- what a check refuses was refused in reading, with this number and place
pub checked_refused : (r : Reading) (number place : ℕ) → checked_of r ≡ refused_with number place → r ≡ refused number place
unfolding checked_of
checked_refused (sound file) number place e = cc
checked_refused (refused m p) number place e = cc

-- what a check finds sound was read, with this v and n
pub checked-sound : (r : Reading) (v n : ℕ) → checked_of r ≡ sound_with v n → (r ≡ sound (file_of r)) × ((file_of r).v ≡ v) × ((file_of r).n ≡ n)
unfolding checked_of file_of
checked-sound (sound file) v n e = (refl, cc, cc)
checked-sound (refused m p) v n e = (cc, cc, cc)

-- two answers that say one thing are the same
pub same_answer : (r s : Result Limits Refused) → told_of r ≡ told_of s → r ≡ s
same_answer (Ok a) (Ok b) e =
    let positions : a.positions ≡ b.positions = cc in
    let values : a.values ≡ b.values = cc in
    λ i. Ok (record { positions = positions i; values = values i })
same_answer (Ok a) (Err g) e = cc
same_answer (Err f) (Ok b) e = cc
same_answer (Err f) (Err g) e =
    let number : number_of f.fault ≡ number_of g.fault = cc in
    let place : f.place ≡ g.place = cc in
    let fault = same_fault f.fault g.fault number in
    λ i. Err (record { fault = fault i; place = place i })
