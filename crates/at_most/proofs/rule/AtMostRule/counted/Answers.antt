-- `at_most::rule::AtMostRule::counted` meets its contract: position by position. Assumes nothing.
use Rattle.std.proofs.Common.{Bool, ◌∙◌, ℕ, ap, subst, arith, inl, inr, drop_of_length-le}
use Rattle.lists.proofs.ListLaws.{every_at-place}
use Rattle.lists.proofs.TakeDrop.{drop_next}
use Rattle.sets.specs.Sets.{inside, meets}
use Rattle.rules.specs.Writing.{PositionFits}
use Rattle.at_most.proofs.CountLaws.{Stepped, counts_start, counts_next, counts_end}
use Rattle.at_most.proofs.rule.AtMostRule.counted.Goals as goal
use Rattle.at_most.proofs.rule.AtMostRule.counted.Goals.{then-inside, else-inside, then-meets, else-meets}

pub loop-p-init : goal.loop-p-init
loop-p-init c = (omega arith, counts_start c.args.self.now.positions.now c.args.rooms.now.box c.args.self.now.set)

pub at-room-requires : goal.at-room-requires
at-room-requires c = every_at-place (PositionFits _) c.args.self.now.positions.now c.loop-p.p-index c.requires c.loop-p-test.true

pub loop-p-preserved : goal.loop-p-preserved
loop-p-preserved c =
    let a = c.args in
    let here = c.loop-p in
    let within : Stepped c.inside.result here.inside c.if-inside.inside =
    elim c.if-inside.branch [ then-inside w ↦ inl (w.if-inside.true, w.inside-is) | else-inside w ↦ inr (w.if-inside.false, w.inside-is) ] in
    let met : Stepped c.meets.result here.meeting c.if-meets.meeting =
    elim c.if-meets.branch [ then-meets w ↦ inl (w.if-meets.true, w.meeting-is) | else-meets w ↦ inr (w.if-meets.false, w.meeting-is) ] in (
      omega arith,
      counts_next here.invariant.1 (drop_next a.self.now.positions.now here.p-index c.loop-p-test.true)
          (subst (λ (t : Bool). Stepped t here.inside c.if-inside.inside) (c.inside.ensures.result ∙ ap (λ (room : ℕ). inside room a.self.now.set) c.at-room.ensures) within)
          (subst (λ (t : Bool). Stepped t here.meeting c.if-meets.meeting) (c.meets.ensures.result ∙ ap (λ (room : ℕ). meets room a.self.now.set) c.at-room.ensures) met),
    )

pub returns : goal.returns
returns c = counts_end c.loop-p.invariant.1 (drop_of_length-le c.args.self.now.positions.now c.loop-p-test.false)
