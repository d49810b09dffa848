-- The one promise of the planner: what `plan` replies and what it leaves in the buffer, for every input, buffer and allowance. Assumes nothing.
use Rattle.std.specs.Prelude.{ℕ, ◌-◌, ◌≤◌, ◌<◌, ◌≡◌, List, ◌↔◌, ◌⊎◌, T, length, get_or, take}
use Rattle.rules.specs.Rules.{File}
use Rattle.rules.specs.Meaning.{Plan, FirstPlan}
use Rattle.rules.specs.Reading.{sound, reading}
use Rattle.rules.specs.Writing.{fields_of}
use Rattle.steps.specs.Boxes.{box_size}
use Rattle.steps.specs.FirstDead.{FirstDead}
use Rattle.steps.specs.Rounds.{TakesRounds, rounds_most}
use Rattle.steps.specs.Start.{start_of}
use Rattle.steps.specs.Table.{needed, reply_of}
use Rattle.steps.specs.Special.{special}
use Rattle.searching.specs.declared.reply.Reply.{Reply}
use Rattle.searching.specs.Answered.{Answered}

-- the call is not refused: the input and the allowance are not too large, the buffer not too small, and the bytes are this file
pub record Accepted (input before : List ℕ) (allowed : ℕ) (file : File) : Type 0 where
  pub short : length input ≤ 32768
  pub roomy : 64 ≤ length before
  pub modest : allowed ≤ 1000000
  pub read : reading input ≡ sound file

-- what `plan` promises of its reply and of the buffer, whatever the input, the buffer and the allowance are
pub record Planned (input before after : List ℕ) (allowed : ℕ) (r : Reply) : Type 0 where
  -- Demand 1. The reply is the one of 01's table, and the buffer has the plan's values in front of the bytes that it had.
  pub answered : Answered (reply_of input (length before) allowed) r before after
  -- A call that is accepted gets PLAN, NONE or UNDECIDED, which are 0, 1 and 2; any other gets a refusal, which is 10 or more.
  pub decided : (file : File) → Accepted input before allowed file → r.number ≤ 2
  pub refused : ((file : File) → Accepted input before allowed file → ⊥) → 10 ≤ r.number
  -- A reply that is no plan leaves every byte as it was; a plan leaves those from v on.
  pub kept : (r.number ≡ 0 → ⊥) → after ≡ before
  pub beyond : (file : File) → Accepted input before allowed file → (i : ℕ) → file.v ≤ i → get_or after i 0 ≡ get_or before i 0
  -- Demand 2. PLAN exactly if some assignment meets the rules as they were read and the needed splits are allowed, and then the first.
  pub plan : (file : File) → Accepted input before allowed file → (r.number ≡ 0) ↔ (((a : List ℕ) × Plan file a) × (needed file ≤ allowed))
  pub first : (file : File) → Accepted input before allowed file → r.number ≡ 0 → FirstPlan file (take file.v after)
  -- NONE exactly if there is none and the needed splits are allowed.
  pub none : (file : File) → Accepted input before allowed file → (r.number ≡ 1) ↔ (((a : List ℕ) → Plan file a → ⊥) × (needed file ≤ allowed))
  -- A NONE with no split carries the place of the field first found dead (R-3), and every other reply to an accepted call has place 0.
  pub place : (file : File) → Accepted input before allowed file → r.number ≡ 1 → r.splits ≡ 0 → FirstDead (fields_of file) (start_of file) r.place
  pub placeless : (file : File) → Accepted input before allowed file → ((r.number ≡ 1) × (r.splits ≡ 0) → ⊥) → r.place ≡ 0
  -- The rounds are those of the first box (R-10), and at most the sum over positions of starting size less one, plus one. A call that is refused has none.
  pub rounds : (file : File) → Accepted input before allowed file → TakesRounds (fields_of file) (start_of file) r.rounds
  pub most : (file : File) → Accepted input before allowed file → r.rounds ≤ rounds_most (start_of file)
  pub unbegun : ((file : File) → Accepted input before allowed file → ⊥) → r.rounds ≡ 0
  -- UNDECIDED exactly if more splits are needed than were allowed.
  pub undecided : (file : File) → Accepted input before allowed file → (r.number ≡ 2) ↔ (allowed < needed file)
  -- Demand 3. Splits never exceed the product of the starting sizes less one (R-6).
  pub bound : (file : File) → Accepted input before allowed file → r.splits ≤ box_size (start_of file) - 1
  -- The special kind with v or more splits allowed: NONE at no split, or a plan at no dead end, at no position higher than any other plan.
  pub ladder : (file : File) → Accepted input before allowed file → T (special file) → file.v ≤ allowed
      → ((r.number ≡ 1) × (r.splits ≡ 0))
      ⊎ ((r.number ≡ 0) × (r.dead_ends ≡ 0) × ((b : List ℕ) → Plan file b → (i : ℕ) → i < file.v → get_or after i 0 ≤ get_or b i 0))
