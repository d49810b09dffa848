-- The loop of `lowest::equality::lowest_by_equality`: the lowest index by the positions that are left, below what was found, is the lowest by all of them; the rooms of the others were seen to be masks. Assumes nothing.
use Rattle.std.proofs.Common.{ℕ, ◌≡◌, ◌≤◌, ◌<◌, ◌^◌, length, get_or, drop}
use Rattle.steps.specs.Boxes.{room_at}
use Rattle.lowest.proofs.EqualityParts.{splits_of}
use Rattle.lowest.proofs.LowestInTurn.{lowest_of}
use Rattle.lowest.proofs.equality.lowest_by_equality.Given as goal

abbrev pub invariant-loop-p : goal.invariant-loop-p
invariant-loop-p l =
    (l.p-index ≤ length l.positions)
    × (lowest_of (splits_of l.rooms.box l.set l.left) l.positions l.bound ≡ lowest_of (splits_of l.rooms.box l.set l.left) (drop l.p-index l.positions) l.low)
    × ((k : ℕ) → k < l.p-index → room_at l.rooms.box (get_or l.positions k 0) < 2 ^ 32)
