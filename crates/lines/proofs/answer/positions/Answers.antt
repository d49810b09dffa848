-- `lines::answer::positions` meets its contract: a check tells the number of positions. Assumes nothing.
use Rattle.std.proofs.Common.{sym}
use Rattle.rules.specs.Reading.{reading}
use Rattle.lines.proofs.PositionLaws.{positions-sound, positions-refused}
use Rattle.lines.proofs.answer.positions.Goals as goal

pub returns-in-Ok : goal.returns-in-Ok
returns-in-Ok c = positions-sound (reading c.args.input.now) _ _ (sym c.in-Ok.ensures)

pub returns-in-Err : goal.returns-in-Err
returns-in-Err c = positions-refused (reading c.args.input.now) _ _ (sym c.in-Err.ensures)
