-- `lowest::equality::untaken` meets its contract: what each position leaves of the values left, position by position. Assumes nothing.
use Rattle.std.proofs.Common.{ℕ, ◌≡◌, sym, ap, ◌∙◌, arith, drop_of_length-le}
use Rattle.lists.proofs.ListLaws.{every_at-place}
use Rattle.lists.proofs.TakeDrop.{drop_next}
use Rattle.lists.proofs.TestLaws.{true_test}
use Rattle.sets.specs.Sets.{is_empty}
use Rattle.rules.specs.Writing.{PositionFits}
use Rattle.lowest.specs.Untaken.{without_alone}
use Rattle.lowest.proofs.UntakenLaws.{without_one_computed, without_more_computed, untaken_next, untaken-none, untaken_end}
use Rattle.lowest.proofs.equality.untaken.Goals as goal
use Rattle.lowest.proofs.equality.untaken.Goals.{then-count-eq1, else-count-eq1}

pub at-room-requires : goal.at-room-requires
at-room-requires c = every_at-place (PositionFits _) c.args.positions.now c.loop-p.p-index c.requires c.loop-p-test.true

pub returns-then-is_empty : goal.returns-then-is_empty
returns-then-is_empty c =
    let next = drop_next c.args.positions.now c.loop-p.p-index c.loop-p-test.true in
    let none = ap is_empty (sym c.at-room.ensures) ∙ sym c.is_empty.ensures.result ∙ c.if-is_empty.true in
    sym (c.loop-p.invariant.1 ∙ untaken-none c.args.rooms.now.box c.loop-p.left next (true_test _ none))

pub loop-p-preserved : goal.loop-p-preserved
loop-p-preserved c =
    let next = drop_next c.args.positions.now c.loop-p.p-index c.loop-p-test.true in
    let room = c.at-room.result in
    let left = c.loop-p.left in
    let some = sym c.is_empty.ensures.result ∙ c.if-is_empty.false in
    let leaves : without_alone room left ≡ c.if-count-eq1.left =
    elim c.if-count-eq1.branch [
      | then-count-eq1 w ↦ without_one_computed room left some (omega arith) w.complement.ensures.result (w.left-is ∙ w.common-left.ensures.result)
      | else-count-eq1 w ↦ without_more_computed room left some (λ e. omega arith) w.left-is
    ] in
    (omega arith, c.loop-p.invariant.1 ∙ untaken_next c.args.rooms.now.box left next (ap (λ (r : ℕ). without_alone r left) (sym c.at-room.ensures) ∙ leaves))

pub returns : goal.returns
returns c = sym (c.loop-p.invariant.1 ∙ untaken_end c.args.rooms.now.box c.loop-p.left (drop_of_length-le c.args.positions.now c.loop-p-test.false))
