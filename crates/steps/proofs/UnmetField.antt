-- Request R-3 of document 02, of the search of a file that is within 01's limits: which field NONE with no split names (`planned-place`), that every other reply
-- names none (`planned-placeless`), and what the first round alone shows (`first-round_alone`). Assumes nothing.
use mathlib.Core.Path.{◌≡◌, sym, ap, ap₂, ◌∙◌}
use mathlib.Core.List.{List}
use Prim.Native.Nat.{ℕ}
use Rattle.rules.specs.Rules.{File}
use Rattle.rules.specs.Meaning.{Plan}
use Rattle.rules.specs.Writing.{fields_of, Within}
use Rattle.rules.specs.UpTo.{fields_up_to, up_to}
use Rattle.rules.proofs.Writing.UpToLaws.{fields_up_to_lem, front-within}
use Rattle.steps.specs.Shrinking.{dead, look_field, round}
use Rattle.steps.specs.FirstDead.{FirstDead}
use Rattle.steps.specs.Reply.{none, with_rounds}
use Rattle.steps.specs.Rounds.{rounds_of}
use Rattle.steps.specs.Start.{start_of}
use Rattle.steps.specs.Table.{planned}
use Rattle.steps.proofs.Demands.{start, none-exactly}
use Rattle.steps.proofs.Looks.DeadField.{round-first-dead}
use Rattle.steps.proofs.Looks.FirstRound.{round-up_to}
use Rattle.steps.proofs.Looks.InTurn.{in_turn_front}
use Rattle.steps.proofs.Looks.RoundLaws.{round_dies}
use Rattle.steps.proofs.Search.DeadPlace.{NoneAtOnce, Placeless, dead-none, none-dead, search-placeless}
use Rattle.steps.proofs.Start.StartLaws.{start-up_to}

module _ (file : File) (within : Within file) (allowed : ℕ) where
  -- NONE with no split carries the place of the field first found dead
  pub planned-place : NoneAtOnce (planned file allowed) → FirstDead (fields_of file) (start_of file) (planned file allowed).place
  unfolding planned
  planned-place = none-dead (fields_of file) (start_of file) (start file within).rooms (start file within).fits allowed

  -- and where a field is first found dead, that is the reply
  pub place-planned : (place : ℕ) → FirstDead (fields_of file) (start_of file) place → planned file allowed ≡ with_rounds (rounds_of (fields_of file) (start_of file)) (none place 0 1)
  unfolding planned
  place-planned place h = ap (with_rounds (rounds_of (fields_of file) (start_of file))) (dead-none (fields_of file) (start_of file) (start file within).rooms allowed place h)

  -- with one round, where the first finds it dead
  pub place_at_once : (place : ℕ) → round (fields_of file) (start_of file) ≡ dead place → planned file allowed ≡ with_rounds 1 (none place 0 1)
  place_at_once place e =
      place-planned place (round-first-dead _ _ place e)
      ∙ ap (λ (k : ℕ). with_rounds k (none place 0 1)) (round_dies (fields_of file) (start_of file) (start file within).rooms place e).1

  -- every other reply has place 0
  pub planned-placeless : Placeless (planned file allowed)
  unfolding planned
  planned-placeless = search-placeless (fields_of file) (start_of file) (start file within).rooms (start file within).fits allowed 0 0

-- ---- a field that the first round finds dead

module _ (file : File) (place : ℕ) (found : round (fields_of file) (start_of file) ≡ dead place) where
  -- the first round of the rules up to it finds it dead too
  front-found : round (fields_of (up_to place file)) (start_of (up_to place file)) ≡ dead place
  unfolding fields_of
  front-found =
      let front = fields_up_to place (fields_of file) in
      let fields = fields_up_to_lem place file in
      ap₂ round fields.1 (start-up_to place file)
      ∙ in_turn_front look_field front fields.0 (start_of file) place (round-up_to place 5 file.rules (start_of file) found)

  module _ (within : Within file) where
    -- the file that is cut behind it, with all of its starting sets, has the same reply
    pub first-round-reply : (allowed : ℕ) → planned (up_to place file) allowed ≡ planned file allowed
    first-round-reply allowed =
        place_at_once (up_to place file) (front-within place file within) allowed place front-found ∙ sym (place_at_once file within allowed place found)

    -- and so the rules up to and including that field, with the starting sets, have no plan
    pub first-round_alone : (a : List ℕ) → Plan (up_to place file) a → ⊥
    first-round_alone =
        let cut = front-within place file within in
        ((none-exactly (up_to place file) cut 0).0 (ap (λ r. r.number) (place_at_once (up_to place file) cut 0 place front-found))).0
