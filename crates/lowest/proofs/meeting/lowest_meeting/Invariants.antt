-- The loop of `lowest::meeting::lowest_meeting`: the lowest index by the positions that are left, below what was found, is the lowest by all of them. Assumes nothing.
use Rattle.std.proofs.Common.{◌≡◌, ◌≤◌, length, drop}
use Rattle.lowest.proofs.AtMostParts.{meets_wide}
use Rattle.lowest.proofs.LowestInTurn.{lowest_of}
use Rattle.lowest.proofs.meeting.lowest_meeting.Given as goal

abbrev pub invariant-loop-p : goal.invariant-loop-p
invariant-loop-p l =
    (l.p-index ≤ length l.positions)
    × (lowest_of (meets_wide l.rooms.box l.set) l.positions l.bound ≡ lowest_of (meets_wide l.rooms.box l.set) (drop l.p-index l.positions) l.low)
