-- `splitting::halves::keep_half` meets its contract: the room at the index becomes the single smallest value of it, or loses that value. Assumes nothing.
use Rattle.std.proofs.Common.{ℕ, List, ap, subst, sym, ◌∙◌, ◌<◌, get_or, length}
use Rattle.std.proofs.lemmas.List.{get_or_default}
use Rattle.sets.specs.Sets.{single, smallest, others}
use Rattle.splitting.proofs.HalfLaws.{first-kept, other-kept}
use Rattle.splitting.proofs.halves.keep_half.Goals as goal
use Rattle.splitting.proofs.halves.keep_half.Goals.{in-First, in-Other}

pub returns : goal.returns
returns c =
    let a = c.args in
    let there = subst (λ (box : List ℕ). a.i < length box) (sym c.as_slice.ensures) c.requires in
    let here = c.index-as_slice-i.is ∙ get_or_default c.as_slice.result.now a.i _ 0 there ∙ ap (λ (box : List ℕ). get_or box a.i 0) c.as_slice.ensures in
    c.set.ensures
    ∙ elim c.match-half.branch [
      | in-First w ↦ first-kept a.rooms.now a.i w.in-First.is (w.kept-is ∙ w.single-kept.ensures.result ∙ ap single (w.smallest.ensures.result ∙ ap smallest here))
      | in-Other w ↦ other-kept a.rooms.now a.i w.in-Other.is (w.kept-is ∙ w.others-kept.ensures.result ∙ ap others here)
    ]
