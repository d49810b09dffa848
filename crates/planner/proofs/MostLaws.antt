-- The end of a progress bar (R-10): what `rounds_most` answers is enough for every reply (`most-kept`), and it is at most v * (n - 1) + 1 of a file that is read (`most_of_header`). The rounds of
-- a file are the same whatever the buffer and the allowance (`rounds_alike`). Assumes nothing.
use mathlib.Core.Path.{◌≡◌, sym, ◌∙◌, subst}
use mathlib.Core.List.{List}
use Prim.Native.Nat.{ℕ, ◌+◌, ◌*◌, ◌-◌, ◌≤◌, ◌<◌}
use native.Mathlib.Omega.{arith}
use borrow.Author.Tests.{lt-ltb, le-ltb}
use lib.ListN.{length}
use Rattle.lists.specs.Lists.{Every}
use Rattle.rules.specs.Rules.{File}
use Rattle.rules.specs.Reading.{Reading, sound, refused, reading}
use Rattle.rules.specs.Writing.{fields_of}
use Rattle.rules.proofs.Writing.RoundTrip.{written_of-read}
use Rattle.steps.specs.Start.{start_of}
use Rattle.steps.specs.Table.{planned, of_reading, most_of, most_rounds}
use Rattle.steps.specs.Rounds.{rounds_most}
use Rattle.steps.proofs.Rounds.{most-by_header, most_plain}
use Rattle.steps.proofs.Start.StartLaws.{NoStart}
use Rattle.steps.proofs.Looks.RoundLaws.{rounds-bound, rounds_only}
use Rattle.searching.specs.declared.reply.Reply.{Reply}
use Rattle.searching.specs.Answered.{told}
use Rattle.planner.specs.Promise.{Accepted, Planned}
use Rattle.planner.specs.Most.{RoundsMost}
use Rattle.planner.proofs.ReplyLaws.{start_filled, of_every-reply}

module _ (input : List ℕ) where
  -- the test of the length, and then what was read
  pub most_too_long : 32768 < length input → most_rounds input ≡ 0
  unfolding most_rounds
  most_too_long h = simp (lt-ltb 32768 (length input) h)

  pub most-reading : (found : Reading) → reading input ≡ found → length input ≤ 32768 → most_rounds input ≡ most_of found
  unfolding most_rounds
  most-reading found e h = simp (le-ltb 32768 (length input) h, e)

  -- the reply to what was read has no more rounds
  read-most : (allowed : ℕ) (found : Reading) → reading input ≡ found → (of_reading found allowed).rounds ≤ most_of found
  unfolding of_reading most_of planned
  read-most allowed (refused number place) e = omega arith
  read-most allowed (sound file) e = rounds-bound _ (start_of file) (start_filled input file e)

  -- nor has any reply
  reply-most : (before after : List ℕ) (allowed : ℕ) (r : Reply) → Planned input before after allowed r → r.rounds ≤ most_rounds input
  reply-most before after allowed r promised =
      subst (λ (q : Reply). q.rounds ≤ most_rounds input) (sym promised.answered.reply)
      (of_every-reply input (length before) allowed (λ g. (told g).rounds ≤ most_rounds input) (λ number low high. omega arith)
      (λ found read short roomy modest. omega (arith, read-most allowed found read, most-reading found read short)))

  -- so this number keeps the promise
  pub most-kept : {r : ℕ} → r ≡ most_rounds input → RoundsMost input r
  most-kept e = record { exactly = e; enough = λ before after allowed reply promised. omega (arith, e, reply-most before after allowed reply promised) }

  module _ (bytes : Every (λ b. b < 256) input) (file : File) (read : reading input ≡ sound file) (short : length input ≤ 32768) (r : ℕ) (promised : RoundsMost input r) where
    by_start : r ≡ rounds_most (start_of file)
    unfolding most_of
    by_start = promised.exactly ∙ most-reading (sound file) read short

    -- no more than a caller can work out from bytes 3 and 4 of a file that is read
    pub most_of_header : r ≤ file.v * (file.n - 1) + 1
    most_of_header = omega (arith, by_start, most-by_header file (written_of-read input bytes file read).1)

    -- and just that where the file has no starting set
    pub most_without-starts : Every NoStart file.rules → r ≡ file.v * (file.n - 1) + 1
    most_without-starts plain = by_start ∙ most_plain file (written_of-read input bytes file read).1 plain

  -- two replies to one file have the same rounds, with any two buffers and allowances that are not refused: UNDECIDED has those of the PLAN or NONE that more splits give
  pub rounds_alike : (file : File) {before after before' after' : List ℕ} {allowed allowed' : ℕ} {r s : Reply} → Planned input before after allowed r → Planned input before' after' allowed' s
      → Accepted input before allowed file → Accepted input before' allowed' file → r.rounds ≡ s.rounds
  rounds_alike file {r = r} {s = s} p q one other =
      let only = rounds_only (fields_of file) (start_of file) (start_filled input file one.read) in
      only r.rounds (p.rounds file one) ∙ sym (only s.rounds (q.rounds file other))
