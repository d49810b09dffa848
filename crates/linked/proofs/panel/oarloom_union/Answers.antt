-- `linked::panel::oarloom_union` meets its promise: that of `Room::union`, of the rooms with the masks a and b in either order. Assumes nothing.
use Rattle.sets.specs.Promise.{Union}
use Rattle.sets.proofs.Kept.{union_symmetric}
use Rattle.linked.proofs.Masks.{of_masks}
use Rattle.linked.proofs.panel.oarloom_union.Goals as goal

pub returns : goal.returns
returns c = let made = of_masks Union c.from.ensures c.from-2.ensures c.from-3.ensures c.union.ensures in search (made, union_symmetric made)
