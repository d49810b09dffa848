-- A larger allowance (R-14), of any replies and buffers that the promise allows: a PLAN or NONE already given stays, with all that it says and all that it writes (`allowance_raised`).
-- Assumes nothing.
use mathlib.Core.Path.{◌≡◌, sym, ap, ◌∙◌}
use mathlib.Core.List.{List}
use Prim.Native.Nat.{ℕ, ◌≤◌, ◌<◌}
use native.Mathlib.Decide.{ℕ_discrete}
use native.Mathlib.Omega.{arith}
use lib.ListN.{length, take, drop}
use lib.Seq.{take_at}
use Rattle.lists.specs.Lists.{Every}
use Rattle.lists.specs.Buffer.{over}
use Rattle.rules.specs.Rules.{File}
use Rattle.rules.specs.Reading.{sound, reading}
use Rattle.rules.specs.Writing.{Within}
use Rattle.rules.proofs.Writing.RoundTrip.{written_of-read}
use Rattle.steps.specs.Table.{planned, needed}
use Rattle.steps.proofs.Demands.{enough-allowed}
use Rattle.searching.specs.declared.reply.Reply.{Reply}
use Rattle.searching.specs.Answered.{Answered}
use Rattle.searching.proofs.AnsweredLaws.{answers}
use Rattle.planner.specs.Promise.{Accepted, Planned}
use Rattle.planner.specs.Later.{Decided, Stays}
use Rattle.planner.proofs.PromiseLaws.{found, plan_long}
use Rattle.planner.proofs.EveryReply.{accepted_file}

module _ (input : List ℕ) (bytes : Every (λ b. b < 256) input) (file : File) (read : reading input ≡ sound file) (before after : List ℕ) (allowed : ℕ) (r : Reply)
    (promised : Planned input before after allowed r) (decided : Decided r) where
  -- the file that was read is within the limits
  within : Within file
  within = (written_of-read input bytes file read).1

  -- the call was accepted
  accepted : Accepted input before allowed file
  accepted = accepted_file input before after allowed r promised (omega (arith, decided)) file read

  -- and is answered by the search of the file
  first : Answered (planned file allowed) r before after
  first = found input before after allowed r bytes promised.answered file accepted

  -- which needs no more splits than it was allowed
  enough : needed file ≤ allowed
  enough = go (ℕ_discrete r.number 0)
    where
      go : Dec (r.number ≡ 0) → needed file ≤ allowed
      go (yes zero) = ((promised.plan file accepted).0 zero).1
      go (no other) = ((promised.none file accepted).0 (omega (arith, decided))).1

  module _ (before' later : List ℕ) (allowed' : ℕ) (s : Reply) (promised' : Planned input before' later allowed' s) (roomy : 64 ≤ length before') (modest : allowed' ≤ 1000000) where
    -- the whole reply stays, and what is written
    pub allowance_raised : allowed ≤ allowed' → Stays file.v r after s before' later
    allowance_raised larger = record {
      reply = same;
      plan = λ zero. answered.memory ∙ ap (λ (values : List ℕ). over values before') (same-values zero);
      none = λ one. promised'.kept (λ zero. omega (arith, one, zero, ap (λ (q : Reply). q.number) same));
    }
      where
        -- the later call is answered by that search too, with the earlier allowance
        answered : Answered (planned file allowed) s before' later
        answered =
            answers (enough-allowed file within allowed enough ∙ sym (enough-allowed file within allowed' (omega (arith, enough, larger))))
            (found input before' later allowed' s bytes promised'.answered file (record { short = accepted.short; roomy = roomy; modest = modest; read = read }))

        -- the values of that search are what the earlier call wrote
        same-values : r.number ≡ 0 → (planned file allowed).values ≡ take file.v after
        same-values zero =
            let values = (planned file allowed).values in
            let long = plan_long input before after allowed r bytes promised.answered file accepted zero in
            sym (ap (take file.v) first.memory ∙ take_at values (drop (length values) before) file.v long)

        -- so the replies are the same
        same : s ≡ r
        same = answered.reply ∙ sym first.reply
