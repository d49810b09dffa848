-- `lowest::meeting::lowest_meeting` meets its contract: position by position, and whether one passes the test. Assumes nothing.
use Rattle.std.proofs.Common.{sym, ◌∙◌, arith, get_or, drop_of_length-le}
use Rattle.lists.proofs.ListLaws.{every_at-place}
use Rattle.lists.proofs.TakeDrop.{drop_next}
use Rattle.rules.specs.Writing.{PositionFits}
use Rattle.lowest.proofs.AtMostParts.{meets_wide, meeting_tested, meeting-in_turn}
use Rattle.lowest.proofs.LowestInTurn.{named-found, named-failed, named-higher, lowest_end, lowest_next}
use Rattle.lowest.proofs.meeting.lowest_meeting.Goals as goal
use Rattle.lowest.proofs.meeting.lowest_meeting.Goals.{then-i-low+then-wide_and_meets, else-i-low, else-i-low-via-then-i-low+else-wide_and_meets, else-i-low-via-else-i-low}

pub loop-p-preserved : goal.loop-p-preserved
loop-p-preserved c =
    let a = c.args in
    let box = a.rooms.now.box in
    let test = meets_wide box a.set in
    let low = c.loop-p.low in
    let p = get_or a.positions.now c.loop-p.p-index 0 in
    let first = (every_at-place (PositionFits _) a.positions.now c.loop-p.p-index c.requires c.loop-p-test.true).0 in (
      omega arith,
      c.loop-p.invariant.1 ∙
          lowest_next test low (drop_next a.positions.now c.loop-p.p-index c.loop-p-test.true)
          (elim c.if-i-low.branch [
            | then-i-low+then-wide_and_meets w ↦ named-found test p low first (meeting_tested box a.set p w.at.ensures w.wide_and_meets.ensures) w.if-i-low.true w.if-wide_and_meets.true ∙ sym w.low-is
            | else-i-low w ↦ elim w.else-i-low.branch [
              | else-i-low-via-then-i-low+else-wide_and_meets u ↦ named-failed test p low first (meeting_tested box a.set p u.at.ensures u.wide_and_meets.ensures) u.if-wide_and_meets.false
              | else-i-low-via-else-i-low u ↦ named-higher test p low first u.if-i-low.false
            ] ∙ sym w.low-is
          ]),
    )

pub returns : goal.returns
returns c =
    let a = c.args in
    sym (meeting-in_turn a.rooms.now.box a.set a.positions.now a.bound ∙ c.loop-p.invariant.1
    ∙ lowest_end (meets_wide a.rooms.now.box a.set) c.loop-p.low (drop_of_length-le a.positions.now c.loop-p-test.false))
