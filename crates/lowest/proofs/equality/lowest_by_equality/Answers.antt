-- `lowest::equality::lowest_by_equality` meets its contract: position by position, and whether one is left to be split. Assumes nothing.
use Rattle.std.proofs.Common.{ℕ, ◌≡◌, ◌<◌, ◌^◌, sym, subst, ◌∙◌, arith, true, false, get_or, drop_of_length-le}
use borrow.Author.Count.{below_more}
use Rattle.lists.proofs.ListLaws.{every_at, every_at-place, every_of_places}
use Rattle.lists.proofs.TakeDrop.{drop_next}
use Rattle.sets.specs.Sets.{inside}
use Rattle.rules.specs.Writing.{PositionFits}
use Rattle.steps.specs.Boxes.{room_at}
use Rattle.lowest.proofs.EqualityParts.{to_meet, splits_of}
use Rattle.lowest.proofs.EqualityInTurn.{positions_of, lowest_by-positions, picks, split-found, split-passed}
use Rattle.lowest.proofs.LowestInTurn.{named-higher, lowest_end, lowest_next}
use Rattle.lowest.proofs.equality.lowest_by_equality.Goals as goal
use Rattle.lowest.proofs.equality.lowest_by_equality.Goals.{then-inside, else-inside, then-i-low+then-meets, else-i-low, else-i-low-via-then-i-low+else-meets, else-i-low-via-else-i-low}

pub loop-p-preserved : goal.loop-p-preserved
loop-p-preserved c =
    let ps = positions_of c.args.content.now in
    let box = c.args.rooms.now.box in
    let i = c.loop-p.p-index in
    let m = c.set_at-set.result in
    let left = c.untaken-left.result in
    let test = splits_of box m left in
    let low = c.loop-p.low in
    let p = get_or ps i 0 in
    let first = (every_at-place (PositionFits _) ps i c.requires.1.fit c.loop-p-test.true).0 in
    let room = c.at-room.result in
    let by = picks room m left c.if-inside.to_meet c.inside.ensures.result in
    let picked : c.if-inside.to_meet ≡ to_meet (inside room m) m left = elim c.if-inside.branch [ then-inside w ↦ by true w.if-inside.true w.to_meet-is | else-inside w ↦ by false w.if-inside.false w.to_meet-is ] in
    let mask = subst (λ (r : ℕ). r < 2 ^ 32) c.at-room.ensures (omega (arith, c.at-room.type_inv)) in (
      omega arith,
      c.loop-p.invariant.1 ∙
          lowest_next test low (drop_next ps i c.loop-p-test.true)
          (elim c.if-i-low.branch [
            | then-i-low+then-meets w ↦ split-found box m left p low first c.at-room.ensures picked w.meets.ensures.result w.if-i-low.true w.if-meets.true ∙ sym w.low-is
            | else-i-low w ↦ elim w.else-i-low.branch [
              | else-i-low-via-then-i-low+else-meets u ↦ split-passed box m left p low first c.at-room.ensures picked u.meets.ensures.result (λ l. u.if-meets.false)
              | else-i-low-via-else-i-low u ↦ named-higher test p low first u.if-i-low.false
            ] ∙ sym w.low-is
          ]),
      below_more (λ k. room_at box (get_or ps k 0) < 2 ^ 32) i c.loop-p.invariant.2 mask,
    )

pub returns : goal.returns
returns c =
    let ps = positions_of c.args.content.now in
    let box = c.args.rooms.now.box in
    let set = c.set_at-set in
    let left = c.untaken-left in
    let masks = every_of_places (λ p. room_at box p < 2 ^ 32) ps (λ k h. c.loop-p.invariant.2 k (omega (arith, c.loop-p-test.false))) in
    sym (lowest_by-positions box c.args.content.now (omega (arith, set.type_inv)) set.ensures left.ensures (λ p t. every_at (λ q. room_at box q < 2 ^ 32) masks t) c.args.bound
    ∙ c.loop-p.invariant.1 ∙ lowest_end (splits_of box set.result left.result) c.loop-p.low (drop_of_length-le ps c.loop-p-test.false))
