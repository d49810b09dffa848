-- `lines::reply::first_line` meets its contract: the word, the numbers and the end of the line. Assumes nothing.
use Rattle.std.proofs.Common.{[]}
use Rattle.texts.specs.Bytes.{newline}
use Rattle.texts.specs.Grown.{line_of}
use Rattle.texts.proofs.GrownLaws.{grown_whole}
use Rattle.lines.proofs.TextLaws.{line-ended}
use Rattle.lines.proofs.reply.first_line.Goals as goal

pub returns : goal.returns
unfolding newline
returns c = grown_whole (line_of []) _ newline (line-ended _ _) c.begun-line.ensures c.byte.ensures
