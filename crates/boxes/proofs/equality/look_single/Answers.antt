-- `boxes::equality::look_single` meets its contract: the only position that can be live is the one that the atom names. Assumes nothing.
use Rattle.std.proofs.Common.{ℕ, ap, sym, ◌∙◌}
use Rattle.sets.specs.Sets.{common}
use Rattle.steps.specs.Boxes.{with_room}
use Rattle.steps.specs.Shrinking.{look_part}
use Rattle.rooms.specs.Held.{with_box}
use Rattle.rooms.proofs.LookLaws.{leaves-dead, leaves-box}
use Rattle.clauses.proofs.ScanLaws.{nothing_shared, something_shared}
use Rattle.boxes.proofs.EqualityLooks.{single-dead, single-cut}
use Rattle.boxes.proofs.equality.look_single.Goals as goal

pub returns-then-is_empty : goal.returns-then-is_empty
returns-then-is_empty c =
    let a = c.args in
    let none = nothing_shared c.is_empty.ensures.result c.if-is_empty.true in
    leaves-dead look_part _ a.rooms.now
    (single-dead a.set a.position a.rooms.now.box (ap (λ (room : ℕ). common room a.set) (sym c.at.ensures) ∙ sym c.common-shared.ensures.result ∙ none))

pub returns : goal.returns
returns c =
    let a = c.args in
    let shared = c.common-shared.ensures.result ∙ ap (λ (room : ℕ). common room a.set) c.at.ensures in
    leaves-box look_part _ a.rooms.now
    (single-cut a.set a.position a.rooms.now.box c.requires.0 (λ none. something_shared c.is_empty.ensures.result c.if-is_empty.false (shared ∙ none)))
    (c.put.ensures ∙ ap (λ (room : ℕ). with_box (with_room a.rooms.now.box a.position room) a.rooms.now) shared)
