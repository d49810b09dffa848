-- The rooms that the code starts with are the box at the start, and what is searched from there, with the rounds of the first box, is the search of the file. Assumes nothing.
use mathlib.Core.Path.{◌≡◌, sym, ap, ap₂, ◌∙◌, subst}
use mathlib.Core.List.{List}
use Prim.Native.Nat.{ℕ, ◌+◌, ◌-◌, ◌≤◌}
use native.Mathlib.Omega.{arith}
use lib.ListN.{length}
use Rattle.sound.specs.Checked.{sound_with, checked_of}
use Rattle.rooms.specs.Held.{Held}
use Rattle.rules.specs.Writing.{fields_of}
use Rattle.rules.specs.Reading.{reading}
use Rattle.rules.specs.Sound.{file_of, fields_in, SoundInput}
use Rattle.rules.proofs.Reading.WalkLaws.{sound_limits}
use Rattle.steps.specs.Boxes.{start_box, spare_values, Rooms}
use Rattle.steps.specs.Rounds.{rounds_of, rounds_most}
use Rattle.steps.specs.Reply.{with_rounds}
use Rattle.steps.specs.Search.{searched}
use Rattle.steps.specs.Start.{starts_by, start_of}
use Rattle.steps.specs.Table.{planned, most_of, most_rounds}
use Rattle.steps.proofs.Boxes.BoxSizes.{spare-most, start-length}
use Rattle.sound.proofs.CheckedLaws.{checked-sound}
use Rattle.planner.proofs.MostLaws.{most-reading}
use Rattle.planner.proofs.ReplyLaws.{start_filled}
use Rattle.steps.proofs.Start.StartLaws.{starts-length}

module _ (s : List ℕ) (v n : ℕ) (checked : checked_of (reading s) ≡ sound_with v n) where
  -- bytes that pass the check are a sound file
  pub sound_checked : SoundInput s v
  sound_checked = let so = checked-sound (reading s) v n checked in record { read = so.0; positions = so.1 }

  -- no more than 64 positions
  pub few_checked : v ≤ 64
  few_checked = (sound_limits s v sound_checked).1

  module _ {rooms : Held} (made : rooms ≡ record { box = starts_by (file_of (reading s)).rules (start_box v n); rest = start_box (64 - v) n }) where
    -- those in front are the starting sets over plain ones
    abbrev in_front : rooms.box ≡ starts_by (file_of (reading s)).rules (start_box v n)
    in_front = ap (λ (held : Held). held.box) made

    -- the rooms are those that the file's search starts with
    from_start : rooms.box ≡ start_of (file_of (reading s))
    unfolding start_of
    from_start =
        let so = checked-sound (reading s) v n checked in
        in_front ∙ ap (starts_by (file_of (reading s)).rules) (ap₂ start_box (sym so.1) (sym so.2))

    -- as many as positions
    pub start-long : length rooms.box ≡ v
    start-long = ap length in_front ∙ starts-length (file_of (reading s)).rules (start_box v n) ∙ start-length v n

    -- so the bytes are a sound file of as many
    pub start-sound : SoundInput s (length rooms.box)
    start-sound = subst (SoundInput s) (sym start-long) sound_checked

    -- none of them is empty
    pub start-full : Rooms rooms.box
    start-full = subst Rooms (sym from_start) (start_filled s (file_of (reading s)) sound_checked.read)

    -- ---- the most rounds

    -- few values may go from there
    pub start-few : spare_values rooms.box ≤ 1984
    start-few = omega (arith, spare-most rooms.box start-full, start-long, few_checked)

    -- and one more than those are the most rounds
    pub start-most : length s ≤ 32768 → {spare : ℕ} → spare ≡ spare_values rooms.box → spare + 1 ≡ most_rounds s
    unfolding most_of rounds_most
    start-most short e = ap (λ (k : ℕ). k + 1) (e ∙ ap spare_values from_start) ∙ sym (most-reading s _ sound_checked.read short)

    -- ---- the search

    -- the search from there, with the rounds of the first box, is the search of the file
    pub searched-planned : (allowed : ℕ) → with_rounds (rounds_of (fields_in s) rooms.box) (searched (fields_in s) allowed rooms.box 0 0) ≡ planned (file_of (reading s)) allowed
    unfolding planned fields_in
    searched-planned allowed = let fields = fields_of (file_of (reading s)) in ap (λ (box : List ℕ). with_rounds (rounds_of fields box) (searched fields allowed box 0 0)) from_start
