-- `boxes::shrink::shrink` meets its contract: round by round. Assumes nothing.
use Rattle.std.proofs.Common.{arith, sym, ◌∙◌}
use Rattle.std.specs.Cmp.Lexicographic.{same_text, other_text}
use Rattle.rules.proofs.Reading.WalkLaws.{sound_limits}
use Rattle.boxes.proofs.ShrinkRounds.{rounds_small, cutting-dead, cutting_done, cutting_falls, cutting_on}
use Rattle.boxes.proofs.shrink.shrink.Goals as goal

pub returns-in-Err : goal.returns-in-Err
returns-in-Err c = cutting-dead c.loop-dead.invariant c.look_round.ensures c.in-Err.dead c.in-Err.is c.clear.ensures

pub returns-then-eq : goal.returns-then-eq
returns-then-eq c =
    cutting_done c.loop-dead.invariant c.look_round.ensures c.in_default.is
    (sym c.as_slice.ensures ∙ same_text _ _ (sym c.if-eq.true ∙ c.eq.ensures) ∙ c.as_slice-in-loop-dead.ensures)

pub overflow_add-rounds : goal.overflow_add-rounds
overflow_add-rounds c = omega (arith, rounds_small (sound_limits c.args.input.now _ c.requires.0).1 c.requires.1 c.loop-dead.invariant)

pub loop-dead-smaller : goal.loop-dead-smaller
loop-dead-smaller c =
    cutting_falls c.loop-dead.invariant c.look_round.ensures c.in_default.is
    (λ same. other_text _ _ (sym c.if-eq.false ∙ c.eq.ensures) (c.as_slice.ensures ∙ same ∙ sym c.as_slice-in-loop-dead.ensures))

pub loop-dead-preserved : goal.loop-dead-preserved
loop-dead-preserved c =
    cutting_on c.loop-dead.invariant c.look_round.ensures c.in_default.is
    (λ same. other_text _ _ (sym c.if-eq.false ∙ c.eq.ensures) (c.as_slice.ensures ∙ same ∙ sym c.as_slice-in-loop-dead.ensures))
