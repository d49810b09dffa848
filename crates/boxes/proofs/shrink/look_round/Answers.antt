-- `boxes::shrink::look_round` meets its contract: field by field. Assumes nothing.
use Rattle.std.proofs.Common.{◌∙◌}
use Rattle.boxes.proofs.ShrinkRounds.{going_start, going_end, going-fits, going-dead, going_on}
use Rattle.boxes.proofs.shrink.look_round.Goals as goal

pub loop-field-init : goal.loop-field-init
loop-field-init c =
    let a = c.args in
    going_start a.input.now a.rooms.now c.requires (c.into_iter-field-iterator.ensures.into_iter_gives ∙ c.fields-field-items.ensures)

pub look_field-requires : goal.look_field-requires
look_field-requires c = going-fits c.loop-field.invariant c.in-Some.ensures.steps

pub returns-then-not-look_field : goal.returns-then-not-look_field
returns-then-not-look_field c = going-dead c.loop-field.invariant c.in-Some.ensures.steps c.look_field.ensures c.if-not-look_field.true

pub loop-field-preserved : goal.loop-field-preserved
loop-field-preserved c = going_on c.loop-field.invariant c.in-Some.ensures.steps c.look_field.ensures c.if-not-look_field.false

pub returns : goal.returns
returns c = going_end c.loop-field.invariant c.in-None.ensures.steps.0
