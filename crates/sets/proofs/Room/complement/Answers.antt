-- `sets::Room::complement` meets its contract: {1..n} without what it shares with the set. Assumes nothing.
use Rattle.std.proofs.Common.{ℕ, ◌∙◌, bit_and, bit_xor}
use mathlib.Core.Path.{ap₂}
use Rattle.sets.specs.Sets.{common, complement}
use Rattle.sets.proofs.Kept.{complement-kept}
use Rattle.sets.proofs.Room.complement.Goals as goal

pub returns : goal.returns
unfolding common complement
returns c = complement-kept (ap₂ (λ (whole m : ℕ). bit_xor whole (bit_and whole m)) (c.whole.view_is ∙ c.full-whole.ensures.result) c.self.view_is)
