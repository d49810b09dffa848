-- `texts::Text::word` meets its contract: one byte more of the word is added, until all are. Assumes nothing.
use Rattle.std.proofs.Common.{refl, sym, [], ◌∷◌, get_or, take}
use Rattle.std.proofs.lemmas.List.{take_more}
use Rattle.texts.specs.Grown.{grown}
use Rattle.texts.proofs.GrownLaws.{grown_whole}
use Rattle.texts.proofs.Text.word.Goals as goal

pub loop-b-init : goal.loop-b-init
unfolding grown
loop-b-init c = refl

pub loop-b-preserved : goal.loop-b-preserved
loop-b-preserved c =
    let word = c.args.word.now in
    let i = c.loop-b.b-index in
    grown_whole c.args.self.now (take i word) (get_or word i 0 ∷ []) (sym (take_more word i 0 c.loop-b-test.true)) c.loop-b.invariant c.byte.ensures
