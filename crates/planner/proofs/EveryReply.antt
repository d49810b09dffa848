-- What holds of every reply that the promise allows: its number is 0, 1 or 2 or a refusal's (`reply_numbers`), its other numbers are small (`reply_limits`), one that is no refusal shows a file that was accepted (`accepted_call`, `accepted_file`), NONE has one dead end more than splits (`none_counted`), and with one assignment inside the starting sets there is no split (`one_assignment`). Assumes nothing.
use mathlib.Core.Path.{◌≡◌, sym, ap, subst}
use mathlib.Core.Logic.{◌⊎◌, inl, inr}
use mathlib.Core.List.{List}
use Prim.Native.Nat.{ℕ, ◌+◌, ◌≤◌}
use native.Mathlib.Decide.{dec_le}
use native.Mathlib.Omega.{arith}
use lib.ListN.{length}
use Rattle.rules.specs.Reading.{Reading, sound, refused, reading}
use Rattle.rules.proofs.Reading.RefusalLaws.{refused_range, refused-place}
use Rattle.rules.specs.Rules.{File}
use Rattle.steps.specs.Boxes.{box_size}
use Rattle.steps.specs.Start.{start_of}
use Rattle.steps.specs.Table.{of_reading}
use Rattle.searching.specs.declared.reply.Reply.{Reply}
use Rattle.searching.specs.Answered.{told}
use Rattle.planner.specs.Promise.{Accepted, Planned}
use Rattle.planner.proofs.ReplyLaws.{of_every-reply, read_counts, read-rounds}
use Rattle.planner.proofs.UnmetField.{place-within}

-- a place within the longest input, no more splits than may be allowed, and at most one dead end more; one more in NONE; and no more rounds than 64 * 31 + 1
pub record Limited (r : Reply) : Type 0 where
  pub place : r.place ≤ 32768
  pub splits : r.splits ≤ 1000000
  pub dead_ends : r.dead_ends ≤ 1000001
  pub rounds : r.rounds ≤ 1985
  pub none : r.number ≡ 1 → r.dead_ends ≡ r.splits + 1

-- the reply to what was read
read_limited : (input : List ℕ) (allowed : ℕ) (found : Reading) → reading input ≡ found → allowed ≤ 1000000 → (of_reading found allowed).place ≤ 32768
    → Limited (told (of_reading found allowed))
unfolding of_reading
read_limited input allowed (sound file) read modest near =
    let counts = read_counts input file read allowed in
    record {
      place = near;
      splits = omega (arith, counts.within);
      dead_ends = omega (arith, counts.within, counts.fewer);
      rounds = read-rounds input file read allowed;
      none = λ e. omega (arith, counts.none e);
    }
read_limited input allowed (refused number place) read modest near =
    record {
      place = near;
      splits = omega arith;
      dead_ends = omega arith;
      rounds = omega arith;
      none = λ e. absurd (omega (arith, refused_range input number place read));
    }

module _ (input before after : List ℕ) (allowed : ℕ) (r : Reply) (promised : Planned input before after allowed r) where
  -- the place lies within the input: that of a refusal as it was read, that of a NONE as a field's
  read_near : (found : Reading) → reading input ≡ found → length input ≤ 32768 → 64 ≤ length before → allowed ≤ 1000000 → r ≡ told (of_reading found allowed) → r.place ≤ 32768
  unfolding of_reading
  read_near (sound file) read short roomy modest is =
      omega (arith, place-within input before after allowed r promised file (record { short = short; roomy = roomy; modest = modest; read = read }))
  read_near (refused number place) read short roomy modest is = omega (arith, ap (λ (q : Reply). q.place) is, refused-place input number place read)

  -- whatever the call, the reply's numbers are small
  pub reply_limits : Limited r
  reply_limits =
      subst Limited (sym promised.answered.reply)
      (of_every-reply input (length before) allowed (λ g. r ≡ told g → Limited (told g))
      (λ number low high is. record { place = omega arith; splits = omega arith; dead_ends = omega arith; rounds = omega arith; none = λ e. absurd (omega arith) })
      (λ found read short roomy modest is.
      let near = read_near found read short roomy modest is in
      read_limited input allowed found read modest (omega (arith, ap (λ (q : Reply). q.place) is)))
      promised.answered.reply)

  -- a reply that is no refusal shows that its call was accepted, and for which file
  pub accepted_call : r.number ≤ 2 → (file : File) × Accepted input before allowed file
  unfolding of_reading
  accepted_call low =
      of_every-reply input (length before) allowed (λ g. g.number ≤ 2 → (file : File) × Accepted input before allowed file) (λ number large small is. absurd (omega arith)) read
      (omega (arith, ap (λ (q : Reply). q.number) promised.answered.reply))
    where
      read : (found : Reading) → reading input ≡ found → length input ≤ 32768 → 64 ≤ length before → allowed ≤ 1000000 → (of_reading found allowed).number ≤ 2
          → (file : File) × Accepted input before allowed file
      read (sound file) e short roomy modest is = (file, record { short = short; roomy = roomy; modest = modest; read = e })
      read (refused number place) e short roomy modest is = absurd (omega (arith, refused_range input number place e))

  -- which is the one that was read
  pub accepted_file : r.number ≤ 2 → (file : File) → reading input ≡ sound file → Accepted input before allowed file
  accepted_file low file read =
      let call = (accepted_call low).1 in
      record { short = call.short; roomy = call.roomy; modest = call.modest; read = read }

  -- NONE has one dead end more than splits, whatever the call
  pub none_counted : r.number ≡ 1 → r.dead_ends ≡ r.splits + 1
  none_counted = reply_limits.none

  -- and the reply is PLAN, NONE or UNDECIDED, or a refusal: an accepted call has a number of at most 2, and any other one of 10 or more
  pub reply_numbers : (r.number ≤ 2) ⊎ (10 ≤ r.number)
  reply_numbers = go (dec_le r.number 2)
    where
      go : Dec (r.number ≤ 2) → (r.number ≤ 2) ⊎ (10 ≤ r.number)
      go (yes low) = inl low
      go (no high) = inr (promised.refused λ file accepted. high (promised.decided file accepted))

-- where one assignment alone lies inside the starting sets, no reply has a split
pub one_assignment : (input before after : List ℕ) (allowed : ℕ) (r : Reply) → Planned input before after allowed r → (file : File) → Accepted input before allowed file
    → box_size (start_of file) ≡ 1 → r.splits ≡ 0
one_assignment input before after allowed r promised file accepted one = omega (arith, promised.bound file accepted, one)
