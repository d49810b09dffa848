-- `planner::rounds::rounds_most` meets its promise: the most rounds by the starting rooms of the file that was read, and 0 where it is refused. Assumes nothing.
use Rattle.std.proofs.Common.{sym, arith}
use Rattle.steps.specs.Table.{most_of}
use Rattle.sound.proofs.CheckedLaws.{checked_refused}
use Rattle.planner.proofs.MostLaws.{most_too_long, most-reading, most-kept}
use Rattle.planner.proofs.StartRooms.{sound_checked, few_checked, start-long, start-few, start-most}
use Rattle.planner.proofs.rounds.rounds_most.Goals as goal

pub returns-then-input-gt32768 : goal.returns-then-input-gt32768
returns-then-input-gt32768 c = most-kept _ (sym (most_too_long c.args.input.now (omega arith)))

pub start_rooms-rooms-requires : goal.start_rooms-rooms-requires
start_rooms-rooms-requires c = sound_checked _ _ _ (sym c.in-Ok.ensures)

pub spare_values-requires : goal.spare_values-requires
spare_values-requires c =
    let limits = c.in-Ok.limits in
    omega (arith, start-long c.args.input.now limits.positions limits.values (sym c.in-Ok.ensures) c.start_rooms-rooms.ensures, few_checked c.args.input.now limits.positions limits.values (sym c.in-Ok.ensures))

pub overflow_add-result : goal.overflow_add-result
overflow_add-result c =
    let limits = c.in-Ok.limits in
    omega (arith, c.spare_values.ensures, start-few c.args.input.now limits.positions limits.values (sym c.in-Ok.ensures) c.start_rooms-rooms.ensures)

pub returns-in-Ok : goal.returns-in-Ok
returns-in-Ok c =
    let limits = c.in-Ok.limits in
    most-kept _ (start-most c.args.input.now limits.positions limits.values (sym c.in-Ok.ensures) c.start_rooms-rooms.ensures (omega arith) c.spare_values.ensures)

pub returns-in-Err : goal.returns-in-Err
unfolding most_of
returns-in-Err c = most-kept _ (sym (most-reading c.args.input.now _ (checked_refused _ _ _ (sym c.in-Err.ensures)) (omega arith)))
