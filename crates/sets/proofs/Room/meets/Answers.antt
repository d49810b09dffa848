-- `sets::Room::meets` meets its contract: the test is the definition. Assumes nothing.
use Rattle.std.proofs.Common.{ℕ, ◌<◌, ◌^◌, subst, arith}
use mathlib.Core.Path.{ap₂}
use Rattle.sets.specs.Sets.{common, is_empty, meets}
use Rattle.sets.proofs.Kept.{meets-kept}
use Rattle.sets.proofs.Room.meets.Goals as goal

pub returns : goal.returns
unfolding common is_empty
returns c =
    let mask = subst (λ (m : ℕ). m < 2 ^ 32) c.self.view_is (omega arith) in
    meets-kept mask (ap₂ meets c.self.view_is c.other.view_is)
