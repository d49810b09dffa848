-- `reasons::around` meets its contract: part by part. Assumes nothing.
use Rattle.std.proofs.Common.{append_assoc}
use Rattle.texts.specs.Bytes.{decimal}
use Rattle.texts.proofs.GrownLaws.{grown_more, grown_whole}
use Rattle.reasons.proofs.around.Goals as goal

pub returns : goal.returns
returns c =
    let a = c.args in
    let text = a.text.now in
    let one = grown_more text a.front.now (decimal a.place) c.word.ensures c.number.ensures in
    grown_whole text _ a.back.now (append_assoc a.front.now (decimal a.place) a.back.now) one c.word-2.ensures
