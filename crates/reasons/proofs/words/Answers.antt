-- `reasons::words` meets its contract: the place, what is wrong, and the end of the line. Assumes nothing.
use Rattle.std.proofs.Common.{ap, ◌∙◌, append_assoc}
use Rattle.texts.specs.Bytes.{newline}
use Rattle.texts.specs.Grown.{grown}
use Rattle.texts.proofs.GrownLaws.{grown_more, grown_whole, line_made}
use Rattle.reasons.specs.Words.{fault_of, place_of, words_of}
use Rattle.reasons.proofs.WordLaws.{words-fit}
use Rattle.reasons.proofs.words.Goals as goal

pub returns : goal.returns
unfolding newline words_of
returns c =
    let n = c.args.number in
    let line = c.new-line.result in
    let place = place_of n c.args.place in
    line_made (words_of n c.args.place) (words-fit n c.args.place) c.new-line.ensures
    (grown_whole line _ newline (append_assoc place (fault_of n) newline)
    (grown_more line place (fault_of n) c.placed.ensures (c.word.ensures ∙ ap (grown c.placed.new.text) c.fault.ensures))
    c.byte.ensures)
