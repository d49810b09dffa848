-- `boxes::equality::look_equality` meets its contract: the clauses of the positions, then those of the values. Assumes nothing.
use Rattle.std.proofs.Common.{ℕ, Bool, refl, sym, subst, length}
use Rattle.rules.specs.declared.field.Tag.TheVariants.{Equality}
use Rattle.rules.specs.Contents.{PositionsFit}
use Rattle.rules.specs.Reading.{rule_of}
use Rattle.steps.specs.Shrinking.{look_rule}
use Rattle.rooms.specs.Looks.{Leaves}
use Rattle.boxes.proofs.EqualityLooks.{positions_in, equality_left}
use Rattle.boxes.proofs.LooksInTurn.{left-dead-leaves, left_then, left_last, parts_keep}
use Rattle.boxes.proofs.equality.look_equality.Goals as goal

pub look_values-requires : goal.look_values-requires
look_values-requires c =
    let a = c.args in
    let left = equality_left _ a.content.now a.rooms.now c.set_at-set.ensures in
    subst (λ (v : ℕ). PositionsFit v (positions_in a.content.now))
    (left_then left refl c.look_inside.ensures (λ place k. parts_keep place _ k) c.if-look_inside.true).long c.requires.1.fit

pub returns-then-look_inside : goal.returns-then-look_inside
returns-then-look_inside c =
    let a = c.args in
    let left = equality_left _ a.content.now a.rooms.now c.set_at-set.ensures in
    left_last (left_then left refl c.look_inside.ensures (λ place k. parts_keep place _ k) c.if-look_inside.true) refl c.look_values.ensures

pub returns-else-look_inside : goal.returns-else-look_inside
returns-else-look_inside c =
    let a = c.args in
    let left = equality_left _ a.content.now a.rooms.now c.set_at-set.ensures in
    subst (λ (r : Bool). Leaves look_rule (rule_of Equality (length a.content.now) a.content.now) a.rooms.now r c.look_inside.new.rooms) (sym c.if-look_inside.false)
    (left-dead-leaves left refl c.look_inside.ensures c.if-look_inside.false c.look_inside.new.rooms)
