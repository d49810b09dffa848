-- Laws of what a reply leaves: two that answer the same are one (`answered_unique`); a reply that is the same leaves the same, one with other rounds too, and one without values nothing. Assumes nothing.
use mathlib.Core.Path.{◌≡◌, sym, ap, ap₂, ◌∙◌, subst}
use mathlib.Core.List.{List, []}
use Prim.Native.Nat.{ℕ}
use Rattle.lists.specs.Buffer.{over}
use Rattle.sets.proofs.Unique.{one-result}
use Rattle.steps.specs.Reply as steps
use Rattle.searching.specs.declared.reply.Reply.{Reply}
use Rattle.searching.specs.Answered.{told, Answered}
use Rattle.searching.specs.Promise.{HasRounds}

-- what answers a reply answers every reply that it is
pub answers : {whole given : steps.Reply} {r : Reply} {before after : List ℕ} → whole ≡ given → Answered given r before after → Answered whole r before after
answers {r = r} {before = before} {after = after} e h = subst (λ (g : steps.Reply). Answered g r before after) (sym e) h

-- two replies that answer the same are the same, and leave the same
pub answered_unique : {given : steps.Reply} {r s : Reply} {before after after' : List ℕ} → Answered given r before after → Answered given s before after' → (r ≡ s) × (after ≡ after')
answered_unique p q = (one-result p.reply q.reply, one-result p.memory q.memory)

-- a reply without values leaves the buffer
pub nothing_written : {given : steps.Reply} {r : Reply} {before : List ℕ} → r ≡ told given → given.values ≡ [] → Answered given r before before
nothing_written {before = before} q e = record { reply = q; memory = sym (ap (λ (xs : List ℕ). over xs before) e) }

-- a reply with so many rounds leaves what it left
pub rounds-answered : {given : steps.Reply} {q r : Reply} {before after : List ℕ} {k rounds : ℕ} → Answered given q before after → HasRounds q k r → k ≡ rounds
    → Answered (steps.with_rounds rounds given) r before after
rounds-answered found has e = record {
  reply = has ∙ ap₂ (λ (g : Reply) (n : ℕ). record { number = g.number; place = g.place; splits = g.splits; dead_ends = g.dead_ends; rounds = n }) found.reply e;
  memory = found.memory;
}
