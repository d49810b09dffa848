-- `rooms::Rooms::clear` meets its contract: all 64 rooms are empty. Assumes nothing.
use Rattle.std.proofs.Common.{ℕ, ◌-◌, ap, ◌∙◌, replicate}
use Rattle.std.proofs.lemmas.List.{take-replicate, drop-replicate}
use Rattle.rooms.proofs.HeldLaws.{seen-length}
use Rattle.rooms.proofs.Rooms.clear.Goals as goal

pub returns : goal.returns
returns c =
    let n = c.self.inside.positions in
    let same = seen-length (record { few = c.self.invariant.0; array = c.self.invariant.1; view = c.self.view_is }) in
    c.self-2.view_is ∙ c.of.ensures ∙ λ i. record {
      box = (take-replicate n 64 0 c.self.invariant.0 ∙ ap (λ (k : ℕ). replicate k 0) same) i;
      rest = (drop-replicate n 64 0 ∙ ap (λ (k : ℕ). replicate (64 - k) 0) same) i;
    }
