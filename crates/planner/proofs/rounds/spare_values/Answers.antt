-- `planner::rounds::spare_values` meets its contract: the sum of what each room may lose. Assumes nothing.
use Rattle.std.proofs.Common.{rules, sym, ◌≡◌, ◌-◌, ◌∙◌}
use Rattle.std.specs.List.{sum_by}
use Rattle.sets.specs.Sets.{count}
use Rattle.planner.proofs.SpareRooms.{spare_sum}
use Rattle.planner.proofs.rounds.spare_values.Goals as goal

pub returns : goal.returns
returns c = let total : c.sum.result ≡ sum_by (λ room. count room - 1) c.args.rooms.now.box = search rules in total ∙ sym (spare_sum c.args.rooms.now.box)
