-- What a technician may rely on after NONE with no split (R-3), from the promise alone: the place is that of a field of the file (`unmet_field`); where the first
-- round finds that field dead, the rules up to and including it, with the starting sets, have no plan (`unmet_alone`), and the file cut behind it, with the starting sets that
-- stand there, has the same reply (`unmet-cut`).
-- Assumes nothing.
use mathlib.Core.Path.{◌≡◌, sym, ap, ◌∙◌}
use mathlib.Core.Logic.{◌↔◌}
use mathlib.Core.List.{List, ◌++◌}
use Prim.Native.Nat.{ℕ, ◌≤◌, ◌<◌}
use native.Mathlib.Decide.{ℕ_discrete}
use native.Mathlib.Omega.{arith}
use lib.ListN.{length}
use Rattle.lists.specs.Lists.{Some, Every}
use Rattle.lists.proofs.ListLaws.{every_with_some, some_of_listed, listed_of_some}
use Rattle.rules.specs.Rules.{File}
use Rattle.rules.specs.Meaning.{Plan}
use Rattle.rules.specs.Reading.{sound, reading}
use Rattle.rules.specs.Writing.{written_rules, fields_of}
use Rattle.rules.specs.Sound.{StandsIn}
use Rattle.rules.specs.UpTo.{only_starts, up_to}
use Rattle.rules.proofs.Reading.FieldsStand.{fields_stand}
use Rattle.rules.proofs.Writing.RoundTrip.{written_of-read, read_of-written}
use Rattle.rules.proofs.Writing.UpToLaws.{later, front-within, front-written}
use Rattle.steps.specs.Shrinking.{dead, round}
use Rattle.steps.specs.Start.{start_of}
use Rattle.steps.specs.Table.{reply_of}
use Rattle.steps.proofs.Looks.DeadField.{dead_field}
use Rattle.steps.proofs.UnmetField.{first-round_alone, first-round-reply}
use Rattle.searching.specs.declared.reply.Reply.{Reply}
use Rattle.planner.specs.Promise.{Accepted, Planned}
use Rattle.planner.proofs.ReplyLaws.{accepted-reply}

module _ (input before after : List ℕ) (allowed : ℕ) (r : Reply) (promised : Planned input before after allowed r) (file : File) (accepted : Accepted input before allowed file) where
  -- the field that NONE with no split names is one of the file, and stands in the input at its place
  pub unmet_field : r.number ≡ 1 → r.splits ≡ 0 → Some (λ f. (f.place ≡ r.place) × StandsIn input f) (fields_of file)
  unmet_field one none =
      let named = dead_field (fields_of file) (start_of file) r.place (promised.place file accepted one none) in
      let found = every_with_some (StandsIn input) (λ f. f.place ≡ r.place) (fields_of file) (fields_stand input file accepted.read) named in
      some_of_listed (λ f. (f.place ≡ r.place) × StandsIn input f) found.1 (found.3, found.2)

  -- it stands behind the header and within the input
  pub unmet-place : r.number ≡ 1 → r.splits ≡ 0 → (5 ≤ r.place) × (r.place < length input)
  unmet-place one none =
      let found = listed_of_some (λ f. (f.place ≡ r.place) × StandsIn input f) (fields_of file) (unmet_field one none) in
      omega (arith, found.2.0, found.2.1.behind, found.2.1.within)

  -- so a NONE has a place exactly if there was no split
  pub place_tells : r.number ≡ 1 → (r.splits ≡ 0) ↔ (0 < r.place)
  place_tells one = (λ none. omega (arith, unmet-place one none), λ has. go has (ℕ_discrete r.splits 0))
    where
      go : 0 < r.place → Dec (r.splits ≡ 0) → r.splits ≡ 0
      go has (yes none) = none
      go has (no some) = absurd (omega (arith, promised.placeless file accepted (λ both. some both.1)))

  -- whatever the reply, its place lies within the input
  pub place-within : r.place ≤ length input
  place-within = go (ℕ_discrete r.number 1) (ℕ_discrete r.splits 0)
    where
      go : Dec (r.number ≡ 1) → Dec (r.splits ≡ 0) → r.place ≤ length input
      go (yes one) (yes none) = omega (arith, unmet-place one none)
      go (yes one) (no some) = omega (arith, promised.placeless file accepted (λ both. some both.1))
      go (no other) splits = omega (arith, promised.placeless file accepted (λ both. other both.0))

  -- ---- where the first round finds the field dead

  module _ (bytes : Every (λ b. b < 256) input) (found : round (fields_of file) (start_of file) ≡ dead r.place) where
    -- the rules up to and including it, with the starting sets, have no plan
    pub unmet_alone : (a : List ℕ) → Plan (up_to r.place file) a → ⊥
    unmet_alone = first-round_alone file r.place found (written_of-read input bytes file accepted.read).1

    -- The input cut behind it, with the starting sets that stand behind it and no other field, is the file of those rules, and has the same reply.
    pub unmet-cut : (front : List ℕ) × (input ≡ front ++ written_rules (later r.place file))
        × (reading (front ++ written_rules (only_starts (later r.place file))) ≡ sound (up_to r.place file))
        × (reply_of (front ++ written_rules (only_starts (later r.place file))) (length before) allowed ≡ reply_of input (length before) allowed)
    unmet-cut =
        let read = written_of-read input bytes file accepted.read in
        let parts = front-written r.place file in
        let kept : List ℕ = parts.0 ++ written_rules (only_starts (later r.place file)) in
        let again : reading kept ≡ sound (up_to r.place file) =
        ap reading (sym parts.1.kept) ∙ read_of-written (up_to r.place file) (front-within r.place file read.1) in
        let short : length kept ≤ 32768 = omega (arith, accepted.short, ap length read.0, parts.1.short, ap length parts.1.kept) in
        let cut : Accepted kept before allowed (up_to r.place file) = record { short = short; roomy = accepted.roomy; modest = accepted.modest; read = again } in (
          parts.0,
          read.0 ∙ parts.1.all,
          again,
          accepted-reply _ before allowed _ cut ∙ first-round-reply file r.place found read.1 allowed ∙ sym (accepted-reply input before allowed file accepted),
        )
