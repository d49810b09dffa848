-- `linked::panel::oarloom_common` meets its promise: that of `Room::common`, of the rooms with the masks a and b in either order. Assumes nothing.
use Rattle.sets.specs.Promise.{Common}
use Rattle.sets.proofs.Kept.{common_symmetric}
use Rattle.linked.proofs.Masks.{of_masks}
use Rattle.linked.proofs.panel.oarloom_common.Goals as goal

pub returns : goal.returns
returns c = let made = of_masks Common c.from.ensures c.from-2.ensures c.from-3.ensures c.common.ensures in search (made, common_symmetric made)
