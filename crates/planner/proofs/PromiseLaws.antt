-- The promise follows from the one reply and the memory: demands 1, 2 and 3 of every call. Assumes nothing.
use mathlib.Core.Path.{◌≡◌, sym, ap, ◌∙◌, subst}
use mathlib.Core.List.{List, []}
use mathlib.Core.Logic.{◌↔◌, ◌⊎◌, inl, inr, ⊎_elim}
use Prim.Native.Nat.{ℕ, ◌≤◌, ◌<◌}
use native.Mathlib.Decide.{ℕ_discrete}
use native.Mathlib.Omega.{arith}
use lib.Dec.{T}
use lib.ListN.{length, get_or, take, drop, get_or-append}
use lib.Seq.{take_at}
use Rattle.lists.specs.Lists.{Every}
use Rattle.rules.specs.Rules.{File}
use Rattle.rules.specs.Meaning.{Plan, FirstPlan}
use Rattle.rules.specs.Writing.{Within}
use Rattle.rules.proofs.Writing.RoundTrip.{written_of-read}
use Rattle.lists.specs.Buffer.{over}
use Rattle.lists.proofs.BufferLaws.{over-behind}
use Rattle.steps.specs.Reply as steps
use Rattle.steps.specs.Special.{special}
use Rattle.steps.specs.Table.{planned, needed, reply_of}
use Rattle.steps.proofs.UnmetField.{planned-place, planned-placeless}
use Rattle.steps.proofs.Rounds.{planned-rounds, planned-most}
use Rattle.steps.proofs.Demands.{plan-first, plan-exactly, none-exactly, undecided-exactly, splits-bound, special_decides, number-decided}
use Rattle.searching.specs.declared.reply.Reply.{Reply}
use Rattle.searching.specs.Answered.{Answered}
use Rattle.planner.specs.Promise.{Accepted, Planned}
use Rattle.planner.proofs.ReplyLaws.{accepted-reply, reply_refuses, reply_silent}

module _ (input before after : List ℕ) (allowed : ℕ) (r : Reply) (bytes : Every (λ b. b < 256) input)
    (answered : Answered (reply_of input (length before) allowed) r before after) where
  module _ (file : File) (accepted : Accepted input before allowed file) where
    -- the file that was read is within the limits
    within : Within file
    within = (written_of-read input bytes file accepted.read).1

    -- the reply of the file's search is what is answered
    abbrev given : steps.Reply
    given = planned file allowed

    pub found : Answered given r before after
    found = subst (λ (g : steps.Reply). Answered g r before after) (accepted-reply input before allowed file accepted) answered

    number-found : r.number ≡ given.number
    number-found = ap (λ (q : Reply). q.number) found.reply

    splits-found : r.splits ≡ given.splits
    splits-found = ap (λ (q : Reply). q.splits) found.reply

    -- a plan has v values
    pub plan_long : r.number ≡ 0 → length given.values ≡ file.v
    plan_long e = (plan-first file within allowed (sym number-found ∙ e)).0.0.0

    -- ---- the demands, one by one

    kept-beyond : (i : ℕ) → file.v ≤ i → get_or after i 0 ≡ get_or before i 0
    kept-beyond i h = rw found.memory (over-behind given.values before i 0 (few (ℕ_discrete r.number 0)))
      where
        few : Dec (r.number ≡ 0) → length given.values ≤ i
        few (yes e) = omega (arith, plan_long e)
        few (no ne) =
            let silent : given.values ≡ [] =
            ap (λ (g : steps.Reply). g.values) (sym (accepted-reply input before allowed file accepted))
            ∙ reply_silent input (length before) allowed (λ e. ne (ap (λ (q : Reply). q.number) answered.reply ∙ e)) in
            omega (arith, ap length silent)

    plan-found : (r.number ≡ 0) ↔ (((a : List ℕ) × Plan file a) × (needed file ≤ allowed))
    plan-found = rw number-found (plan-exactly file within allowed)

    none_found : (r.number ≡ 1) ↔ (((a : List ℕ) → Plan file a → ⊥) × (needed file ≤ allowed))
    none_found = rw number-found (none-exactly file within allowed)

    place_found : r.place ≡ given.place
    place_found = ap (λ (q : Reply). q.place) found.reply

    undecided-found : (r.number ≡ 2) ↔ (allowed < needed file)
    undecided-found = rw number-found (undecided-exactly file within allowed)

    first_found : r.number ≡ 0 → FirstPlan file (take file.v after)
    first_found e =
        rw (found.memory, take_at given.values (drop (length given.values) before) file.v (plan_long e)) (plan-first file within allowed (sym number-found ∙ e))

    rounds-found : r.rounds ≡ given.rounds
    rounds-found = ap (λ (q : Reply). q.rounds) found.reply

    ladder-found : T (special file) → file.v ≤ allowed
        → ((r.number ≡ 1) × (r.splits ≡ 0))
        ⊎ ((r.number ≡ 0) × (r.dead_ends ≡ 0) × ((b : List ℕ) → Plan file b → (i : ℕ) → i < file.v → get_or after i 0 ≤ get_or b i 0))
    ladder-found kind enough =
        ⊎_elim (λ n. inl (number-found ∙ n.0, splits-found ∙ n.1))
        (λ p. inr (
          number-found ∙ p.0,
          ap (λ (q : Reply). q.dead_ends) found.reply ∙ p.1,
          λ b q i h. rw (found.memory, get_or-append given.values (drop (length given.values) before) 0 i (omega (arith, plan_long (number-found ∙ p.0)))) (p.2 b q i),
        ))
        (special_decides file within allowed kind enough)

  -- a call that no file is accepted for is refused, with no round
  refused_call : ((file : File) → Accepted input before allowed file → ⊥) → (10 ≤ r.number) × (r.rounds ≡ 0)
  refused_call nobody =
      rw answered.reply
      (reply_refuses input (length before) allowed (λ file short roomy modest read. nobody file (record { short = short; roomy = roomy; modest = modest; read = read })))

  -- a reply that is 01's, with the memory that it leaves, keeps the whole promise
  pub promise-kept : Planned input before after allowed r
  promise-kept = record {
    answered = answered;
    decided = λ file accepted. omega (arith, number-found file accepted, number-decided file (within file accepted) allowed);
    refused = λ nobody. (refused_call nobody).0;
    kept = λ other.
        answered.memory
        ∙ ap (λ (values : List ℕ). over values before)
        (reply_silent input (length before) allowed (λ e. other (ap (λ (q : Reply). q.number) answered.reply ∙ e)));
    beyond = kept-beyond;
    plan = plan-found;
    first = first_found;
    none = none_found;
    place = λ file accepted one none.
        rw (place_found file accepted) (planned-place file (within file accepted) allowed (sym (number-found file accepted) ∙ one, sym (splits-found file accepted) ∙ none));
    placeless = λ file accepted other.
        place_found file accepted
        ∙ planned-placeless file (within file accepted) allowed (λ now. other (number-found file accepted ∙ now.0, splits-found file accepted ∙ now.1));
    rounds = λ file accepted. rw (rounds-found file accepted) (planned-rounds file (within file accepted) allowed);
    most = λ file accepted. rw (rounds-found file accepted) (planned-most file (within file accepted) allowed);
    unbegun = λ nobody. (refused_call nobody).1;
    undecided = undecided-found;
    bound = λ file accepted. omega (arith, splits-found file accepted, splits-bound file (within file accepted) allowed);
    ladder = ladder-found;
  }
