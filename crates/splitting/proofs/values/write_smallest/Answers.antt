-- `splitting::values::write_smallest` meets its contract: one room more, its smallest value is a byte and stands behind the others. Assumes nothing.
use Rattle.std.proofs.Common.{refl, ◌∙◌, ◌<◌, ap, ℕ, List, arith, get_or, length}
use Rattle.std.proofs.lemmas.List.{get_or_default}
use lib.ListN.{set}
use mathlib.Core.Path.{ap₂}
use Rattle.steps.specs.Boxes.{smallest_of}
use Rattle.sets.specs.Sets.{smallest}
use Rattle.splitting.proofs.RoomLists.{smallest_byte, smallest_on}
use Rattle.splitting.proofs.values.write_smallest.Goals as goal

pub loop-i-init : goal.loop-i-init
unfolding smallest_of
loop-i-init c = refl

pub overflow_cast-answer : goal.overflow_cast-answer
overflow_cast-answer c = omega (arith, c.smallest.ensures.result, smallest_byte c.room-item.result)

pub loop-i-preserved : goal.loop-i-preserved
loop-i-preserved c =
    let i : ℕ = c.loop-i.i in
    let box = c.args.rooms.now.box in
    let same = ap length c.as_slice-room-items.ensures in
    let there : i < length box = omega (arith, c.loop-i-test.true, same) in
    let room = c.room-item.is ∙ get_or_default c.as_slice-room-items.result.now i _ 0 c.loop-i-test.true ∙ ap (λ (rooms : List ℕ). get_or rooms i 0) c.as_slice-room-items.ensures in
    ap₂ (λ (l : List ℕ) (x : ℕ). set l i x) c.loop-i.invariant (c.smallest.ensures.result ∙ ap smallest room)
    ∙ smallest_on i box c.args.answer.now there (omega (arith, there, c.requires))
