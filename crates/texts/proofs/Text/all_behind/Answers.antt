-- `texts::Text::all_behind` meets its contract: one value more is added behind a space, until all are. Assumes nothing.
use Rattle.std.proofs.Common.{refl, ap, ◌∙◌, [], ◌∷◌, get_or, take}
use Rattle.texts.specs.Bytes.{behind}
use Rattle.texts.specs.Grown.{grown}
use Rattle.texts.proofs.GrownLaws.{grown_whole}
use Rattle.texts.proofs.SpacedLaws.{behind_next}
use Rattle.texts.proofs.Text.all_behind.Goals as goal

pub loop-value-init : goal.loop-value-init
unfolding grown behind
loop-value-init c = refl

pub loop-value-preserved : goal.loop-value-preserved
loop-value-preserved c =
    let values = c.args.values.now in
    let i = c.loop-value.value-index in
    grown_whole c.args.self.now (behind (take i values)) (behind (get_or values i 0 ∷ [])) (behind_next values i c.loop-value-test.true) c.loop-value.invariant
    (c.behind.ensures ∙ ap (λ x. grown c.loop-value.self (behind (x ∷ []))) c.from.ensures)
