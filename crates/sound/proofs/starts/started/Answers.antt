-- `sound::starts::started` meets its contract: kind by kind. Assumes nothing.
use Rattle.std.proofs.Common.{refl, sym, ⊎_elim, arith}
use Rattle.rules.specs.Reading.{rule_of, head_of}
use Rattle.sound.specs.Starts.{started_by}
use Rattle.sound.proofs.StartedLaws.{started_is, started_none}
use Rattle.sound.proofs.starts.started.Goals as goal

-- where the head announces a starting set, its position is there
pub bounds-bytes-3 : goal.bounds-bytes-3
unfolding head_of
bounds-bytes-3 c = omega (arith, c.requires.position (sym c.in-Starting.ensures))

pub overflow_sub-result : goal.overflow_sub-result
unfolding head_of
overflow_sub-result c = omega (arith, c.requires.position (sym c.in-Starting.ensures))

pub returns-in-Starting : goal.returns-in-Starting
unfolding head_of
returns-in-Starting c =
    let there = c.requires.position (sym c.in-Starting.ensures) in
    (omega (arith, there, started_is c.args.bytes.now c.in-Starting.ensures refl), omega (arith, there))

pub returns-in-Header : goal.returns-in-Header
unfolding started_by rule_of
returns-in-Header c =
    ⊎_elim (λ e. sym (started_none _ c.from.ensures e refl)) (⊎_elim (λ e. sym (started_none _ c.from.ensures e refl)) (⊎_elim (λ e. sym (started_none _ c.from.ensures e refl))
    (⊎_elim (λ e. sym (started_none _ c.from.ensures e refl)) (λ e. sym (started_none _ c.from.ensures e refl))))) c.in-Header.is
