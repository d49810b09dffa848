-- `sound::starts::seen_with` meets its contract: a second starting set of a position is one where the position is marked, and else there is one mark more. Assumes nothing.
use Rattle.std.proofs.Common.{sym, ◌∙◌}
use Rattle.rules.specs.Fault.{number_of, number_told}
use Rattle.sound.proofs.StartedLaws.{again-none, again_at, seen_at, seen_still}
use Rattle.sound.proofs.starts.seen_with.Goals as goal

pub returns-in-Some-clause-told : goal.returns-in-Some-clause-told
unfolding number_of number_told
returns-in-Some-clause-told c = sym (again_at _ _ c.in-Some.index c.in-Some.ensures.0 ∙ simp (sym c.has.ensures.result ∙ c.if-has.true))

pub returns-in-Some-2-clause-told : goal.returns-in-Some-2-clause-told
unfolding number_told
returns-in-Some-2-clause-told c = sym (again_at _ _ c.in-Some.index c.in-Some.ensures.0 ∙ simp (sym c.has.ensures.result ∙ c.if-has.false))

pub returns-in-Some-2-clause-marked : goal.returns-in-Some-2-clause-marked
returns-in-Some-2-clause-marked c = c.with.ensures.result ∙ seen_at _ _ c.in-Some.index c.in-Some.ensures.0

pub returns-in-None-clause-told : goal.returns-in-None-clause-told
unfolding number_told
returns-in-None-clause-told c = again-none _ _ c.in-None.ensures

pub returns-in-None-clause-marked : goal.returns-in-None-clause-marked
returns-in-None-clause-marked c = seen_still _ _ c.requires c.in-None.ensures
