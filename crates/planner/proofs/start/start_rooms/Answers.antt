-- `planner::start::start_rooms` meets its contract: field by field. Assumes nothing.
use Rattle.std.proofs.Common.{◌∙◌, sym, subst}
use Rattle.rules.specs.Sound.{SoundInput}
use Rattle.rules.proofs.Reading.WalkLaws.{sound_limits}
use Rattle.steps.proofs.Boxes.BoxSizes.{start-length}
use Rattle.planner.proofs.StartsInTurn.{StartsLeft, plain, plain_made, starts_begin, starts_end, starts-fit, starts_on}
use Rattle.planner.proofs.start.start_rooms.Goals as goal

pub of-rooms-requires : goal.of-rooms-requires
of-rooms-requires c = (sound_limits c.args.input.now c.args.positions c.requires).1

pub loop-field-init : goal.loop-field-init
loop-field-init c =
    let a = c.args in
    let made = plain_made a.positions a.n c.full.result (sound_limits a.input.now a.positions c.requires).1 c.of-rooms.ensures c.full.ensures.result in
    let sound = subst (SoundInput a.input.now) (sym (start-length a.positions a.n)) c.requires in
    subst (StartsLeft a.input.now (plain a.positions a.n) c.into_iter-field-iterator.result) (sym made)
    (starts_begin a.input.now (plain a.positions a.n) sound (c.into_iter-field-iterator.ensures.into_iter_gives ∙ c.fields-field-items.ensures))

pub start_field-requires : goal.start_field-requires
start_field-requires c = starts-fit c.loop-field.invariant c.in-Some.ensures.steps

pub loop-field-preserved : goal.loop-field-preserved
loop-field-preserved c = starts_on c.loop-field.invariant c.in-Some.ensures.steps c.start_field.ensures

pub returns : goal.returns
returns c = starts_end c.loop-field.invariant c.in-None.ensures.steps.0
