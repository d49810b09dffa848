-- `lines::reply::begun` meets its contract: part by part. Assumes nothing.
use Rattle.std.proofs.Common.{ap, ◌∙◌, [], ◌∷◌, ◌++◌}
use Rattle.texts.specs.declared.Text.{Text}
use Rattle.texts.specs.Bytes.{behind}
use Rattle.texts.specs.Grown.{grown}
use Rattle.texts.proofs.GrownLaws.{grown_more, grown_whole}
use Rattle.lines.proofs.TextLaws.{begun-parts}
use Rattle.lines.proofs.reply.begun.Goals as goal

pub returns : goal.returns
returns c =
    let a = c.args in
    let line = c.new-line.result in
    let one = grown_more line a.word.now _ c.word.ensures c.behind.ensures in
    grown_whole line _ _ (begun-parts a.word.now a.first a.second) one c.behind-2.ensures
    ∙ ap (λ (t : Text). grown t (a.word.now ++ behind (a.first ∷ a.second ∷ []))) c.new-line.ensures
