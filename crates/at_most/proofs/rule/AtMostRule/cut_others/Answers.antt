-- `at_most::rule::AtMostRule::cut_others` meets its contract: position by position. Assumes nothing.
use Rattle.std.proofs.Common.{◌<◌, ◌∙◌, ℕ, List, arith, refl, sym, ap, subst, length, get_or, drop_of_length-le}
use Rattle.lists.proofs.ListLaws.{every_at-place}
use Rattle.lists.proofs.TakeDrop.{drop_next}
use Rattle.sets.specs.Sets.{inside, common}
use Rattle.rules.specs.Contents.{PositionsFit}
use Rattle.rules.specs.Writing.{PositionFits}
use Rattle.rooms.specs.Held.{Held}
use Rattle.at_most.proofs.CutLaws.{CutsLeft, cuts-length, cuts_end, cuts-kept, cuts_made}
use Rattle.at_most.proofs.rule.AtMostRule.cut_others.Goals as goal
use Rattle.at_most.proofs.rule.AtMostRule.cut_others.Goals.{then-not-inside, else-not-inside}

-- the position at an index is that of a room
there : {all left : List ℕ} {m i : ℕ} {start rooms : Held} → CutsLeft all left m start rooms → PositionsFit (length start.box) all → i < length all → PositionFits (length rooms.box) (get_or all i 0)
there {all} {i = i} going fit h = subst (λ (v : ℕ). PositionFits v (get_or all i 0)) (sym (cuts-length going)) (every_at-place (PositionFits _) all i fit h)

pub loop-p-init : goal.loop-p-init
loop-p-init c = (omega arith, record { cuts = refl; rest = refl })

pub at-room-requires : goal.at-room-requires
at-room-requires c = there c.loop-p.invariant.1 c.requires c.loop-p-test.true

pub put-requires : goal.put-requires
put-requires c = there c.loop-p.invariant.1 c.requires c.loop-p-test.true

pub loop-p-preserved : goal.loop-p-preserved
loop-p-preserved c =
    let a = c.args in
    let going = c.loop-p.invariant.1 in
    let next = drop_next a.self.now.positions.now c.loop-p.p-index c.loop-p-test.true in
    let within = c.inside.ensures.result ∙ ap (λ (room : ℕ). inside room a.self.now.set) c.at-room.ensures in (
      omega arith,
      elim c.if-not-inside.branch [
        | then-not-inside w ↦ cuts_made going next within w.if-not-inside.true c.complement-outside.ensures.result
            (w.common.ensures.result ∙ ap (λ (room : ℕ). common room c.complement-outside.result) c.at-room.ensures) (w.rooms-is ∙ w.put.ensures)
        | else-not-inside w ↦ cuts-kept going next within w.if-not-inside.false w.rooms-is
      ],
    )

pub returns : goal.returns
returns c = cuts_end c.loop-p.invariant.1 (drop_of_length-le c.args.self.now.positions.now c.loop-p-test.false)
