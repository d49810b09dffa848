-- `planner::start::start_field` meets its contract: a starting set is put into its place, and a field of any other kind leaves the rooms. Assumes nothing.
use Rattle.std.proofs.Common.{ℕ, List, ap, ◌∙◌, arith}
use Rattle.rooms.specs.Held.{with_box}
use Rattle.planner.proofs.StartsInTurn.{start_five, start-position, start-put, start_other}
use Rattle.planner.proofs.start.start_field.Goals as goal

pub atom_at-atom-requires : goal.atom_at-atom-requires
atom_at-atom-requires c = omega (arith, start_five _ c.args.field.content.now c.requires c.in-Starting.is)

pub put-requires : goal.put-requires
put-requires c = start-position _ c.args.field.content.now c.requires c.in-Starting.is c.atom_at-atom.ensures

pub returns-in-Starting : goal.returns-in-Starting
returns-in-Starting c =
    let rooms = c.args.rooms.now in
    c.put.ensures ∙ ap (λ (box : List ℕ). with_box box rooms) (start-put c.args.field.content.now rooms.box c.in-Starting.is c.atom_at-atom.ensures)

pub returns-in_default : goal.returns-in_default
returns-in_default c =
    let rooms = c.args.rooms.now in
    ap (λ (box : List ℕ). with_box box rooms) (start_other c.args.field.kind c.args.field.content.now rooms.box c.in_default.not-Starting)
