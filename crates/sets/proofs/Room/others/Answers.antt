-- `sets::Room::others` meets its contract: what the set shares with the complement of its smallest value. Assumes nothing.
use Rattle.std.proofs.Common.{ap, ◌∙◌, arith}
use Rattle.sets.specs.Sets.{single}
use Rattle.sets.proofs.Kept.{others-kept}
use Rattle.sets.proofs.Smallest.{others_computed}
use Rattle.sets.proofs.Room.others.Goals as goal

pub returns : goal.returns
returns c =
    let one = c.single-one.ensures.result ∙ ap single c.smallest.ensures.result in
    others-kept (omega arith) (others_computed c.args.self _ _ _ one c.complement.ensures.result c.common.ensures.result)
