-- Laws of 01's table: which reply each test leads to, what holds of every reply, and which reply an accepted call has. Assumes nothing.
use mathlib.Core.Path.{◌≡◌, refl, sym, ap, ◌∙◌, subst}
use mathlib.Core.Bool.{Bool, true, false}
use mathlib.Core.List.{List}
use Prim.Native.Nat.{ℕ, ◌≤◌, ◌<◌}
use native.Mathlib.Omega.{arith}
use borrow.Author.Tests.{lt-ltb, le-ltb, ltb-false}
use lib.Dec.{ltb}
use lib.ListN.{length}
use Rattle.rules.specs.Writing.{fields_of}
use Rattle.rules.specs.Rules.{File}
use Rattle.rules.specs.Reading.{Reading, sound, refused, reading}
use Rattle.rules.proofs.Reading.RefusalLaws.{refused_range, read_faultless}
use Rattle.steps.specs.Shrinking.{if_test}
use Rattle.steps.specs.Reply.{Reply, refusal}
use Rattle.steps.specs.Boxes.{Rooms}
use Rattle.steps.specs.Rounds.{rounds_of, rounds_most}
use Rattle.steps.specs.Start.{start_of}
use Rattle.steps.specs.Table.{planned, of_reading, reply_of}
use Rattle.steps.proofs.Boxes.BoxSizes.{spare-most}
use Rattle.steps.proofs.Start.StartLaws.{start-positions, faultless_filled}
use Rattle.steps.proofs.Looks.FittingRules.{FieldsFit, FitsBox, read_fits}
use Rattle.steps.proofs.Looks.RoundLaws.{rounds-bound}
use Rattle.steps.proofs.Search.Counts.{Counted, Written, counted-rounds, search_counts, search-written}
use Rattle.rules.specs.Sound.{file_of, SoundInput}
use Rattle.rules.proofs.Reading.WalkLaws.{sound_limits, sound-values}
use Rattle.planner.specs.Promise.{Accepted}

module _ (input : List ℕ) (file : File) (read : reading input ≡ sound file) where
  -- the file is the one that the bytes are, so they are a sound input of its positions
  is_file : file_of (reading input) ≡ file
  unfolding file_of
  is_file = ap file_of read

  sound_input : SoundInput input file.v
  sound_input = record { read = read ∙ ap sound (sym is_file); positions = ap (λ (f : File). f.v) is_file }

  -- the rooms that the search of a file that was read starts with are not empty
  pub start_filled : Rooms (start_of file)
  start_filled =
      let values = sound-values input file.v sound_input in
      let same = ap (λ (f : File). f.n) is_file in
      faultless_filled file (omega arith) (omega arith) (read_faultless input file read)

  -- and its rules fit them
  start_fits : FitsBox (fields_of file) (start_of file)
  start_fits = subst (λ (v : ℕ). FieldsFit v (fields_of file)) (sym (start-positions file)) (read_fits input file read)

  -- so the counts of its search fit: no more splits than allowed, and at most one dead end more
  pub read_counts : (allowed : ℕ) → Counted allowed 0 0 (planned file allowed)
  unfolding planned
  read_counts allowed = counted-rounds (rounds_of (fields_of file) (start_of file)) (search_counts (fields_of file) (start_of file) start_filled start_fits allowed 0 0 (omega arith))

  -- its rounds are few
  pub read-rounds : (allowed : ℕ) → (planned file allowed).rounds ≤ 1985
  unfolding planned rounds_most
  read-rounds allowed = omega (arith, rounds-bound (fields_of file) (start_of file) start_filled, spare-most (start_of file) start_filled, start-positions file, (sound_limits input file.v sound_input).1)

  -- and only a plan that it gives has values
  read-written : (allowed : ℕ) → Written (planned file allowed)
  unfolding planned
  read-written allowed = search-written (fields_of file) (start_of file) start_filled start_fits allowed 0 0

module _ (input : List ℕ) (buffer allowed : ℕ) where
  -- the first three tests
  pub reply_too_long : 32768 < length input → reply_of input buffer allowed ≡ refusal 10 0
  unfolding reply_of
  reply_too_long h = simp (lt-ltb 32768 (length input) h)

  pub reply_no_room : length input ≤ 32768 → buffer < 64 → reply_of input buffer allowed ≡ refusal 11 0
  unfolding reply_of
  reply_no_room h g = simp (le-ltb 32768 (length input) h, lt-ltb buffer 64 g)

  pub reply_too_many : length input ≤ 32768 → 64 ≤ buffer → 1000000 < allowed → reply_of input buffer allowed ≡ refusal 12 0
  unfolding reply_of
  reply_too_many h g l = simp (le-ltb 32768 (length input) h, le-ltb buffer 64 g, lt-ltb 1000000 allowed l)

  -- where none of them applies, what was read decides
  pub reply-reading : (found : Reading) → reading input ≡ found → length input ≤ 32768 → 64 ≤ buffer → allowed ≤ 1000000 → reply_of input buffer allowed ≡ of_reading found allowed
  unfolding reply_of
  reply-reading found e h g l = simp (le-ltb 32768 (length input) h, le-ltb buffer 64 g, le-ltb 1000000 allowed l, e)

  -- what holds of the refusals 10 to 12, and of the reply to what is read where none of them applies, holds of every reply
  pub of_every-reply : (P : Reply → Type 0) → ((number : ℕ) → 10 ≤ number → number ≤ 12 → P (refusal number 0))
      → ((found : Reading) → reading input ≡ found → length input ≤ 32768 → 64 ≤ buffer → allowed ≤ 1000000 → P (of_reading found allowed)) → P (reply_of input buffer allowed)
  unfolding reply_of
  of_every-reply P refuses reads =
      test (ltb 32768 (length input)) (refusal 10 0) _ (refuses 10 (omega arith) (omega arith)) λ short.
      test (ltb buffer 64) (refusal 11 0) _ (refuses 11 (omega arith) (omega arith)) λ roomy.
      test (ltb 1000000 allowed) (refusal 12 0) _ (refuses 12 (omega arith) (omega arith)) λ modest.
      reads (reading input) refl (ltb-false 32768 (length input) short) (ltb-false buffer 64 roomy) (ltb-false 1000000 allowed modest)
    where
      test : (t : Bool) (g : Reply) (rest : Unit {0} → Reply) → P g → (t ≡ false → P (rest tt)) → P (if_test t g rest)
      test true g rest h f = h
      test false g rest h f = f refl

  -- a call that no file is accepted for gets a refusal, with no round
  pub reply_refuses : ((file : File) → length input ≤ 32768 → 64 ≤ buffer → allowed ≤ 1000000 → reading input ≡ sound file → ⊥)
      → (10 ≤ (reply_of input buffer allowed).number) × ((reply_of input buffer allowed).rounds ≡ 0)
  unfolding of_reading
  reply_refuses nobody = of_every-reply (λ g. (10 ≤ g.number) × (g.rounds ≡ 0)) (λ number low high. (low, refl)) read
    where
      read : (r : Reading) → reading input ≡ r → length input ≤ 32768 → 64 ≤ buffer → allowed ≤ 1000000 → (10 ≤ (of_reading r allowed).number) × ((of_reading r allowed).rounds ≡ 0)
      read (sound file) e h g l = absurd (nobody file h g l e)
      read (refused number place) e h g l = let n = refused_range input number place e in (omega arith, refl)

  -- a reply that is no plan has no values
  pub reply_silent : Written (reply_of input buffer allowed)
  unfolding of_reading
  reply_silent = of_every-reply Written (λ number low high. λ ne. refl) read
    where
      read : (r : Reading) → reading input ≡ r → length input ≤ 32768 → 64 ≤ buffer → allowed ≤ 1000000 → Written (of_reading r allowed)
      read (sound file) e h g l = read-written input file e allowed
      read (refused number place) e h g l = λ ne. refl

-- a call that is not refused has the reply of the file's search
pub accepted-reply : (input before : List ℕ) (allowed : ℕ) (file : File) → Accepted input before allowed file
    → reply_of input (length before) allowed ≡ planned file allowed
unfolding of_reading
accepted-reply input before allowed file accepted =
    reply-reading input (length before) allowed (sound file) accepted.read accepted.short accepted.roomy accepted.modest
