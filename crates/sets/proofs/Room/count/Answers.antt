-- `sets::Room::count` meets its contract: the ones of the mask are the values that are listed. Assumes nothing.
use Rattle.std.proofs.Common.{ℕ, ◌<◌, ◌^◌, ◌∙◌, sym, ap, subst, arith}
use Rattle.sets.specs.Sets.{count}
use Rattle.sets.proofs.Counting.{count_ones}
use Rattle.sets.proofs.Kept.{count_kept}
use Rattle.sets.proofs.Room.count.Goals as goal

pub returns : goal.returns
returns c =
    let mask = subst (λ (m : ℕ). m < 2 ^ 32) c.self.view_is (omega arith) in
    count_kept mask (sym (count_ones c.self.inside.mask (omega arith)) ∙ ap count c.self.view_is)
