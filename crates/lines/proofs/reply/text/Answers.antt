-- `lines::reply::text` meets its promise: the first line by the number, and behind that of a plan the line of its values. Assumes nothing.
use Rattle.std.proofs.Common.{[], arith, take}
use lib.ListN.{length-take}
use Rattle.texts.specs.Bytes.{bytes_of}
use Rattle.texts.specs.Grown.{line_of}
use Rattle.texts.proofs.GrownLaws.{grown_more}
use Rattle.lines.specs.Text.{text_of}
use Rattle.lines.proofs.TextLaws.{text_known, text-refused, first_line_fits, none_fits, plan_fits, text-shown}
use Rattle.lines.proofs.reply.text.Goals as goal

pub returns-in-0 : goal.returns-in-0
unfolding text_of bytes_of
returns-in-0 c =
    let a = c.args in
    let xs = take a.v a.values.now in
    text-shown (text_known a.reply xs c.in-0.is)
    (plan_fits a.reply.splits a.reply.dead_ends xs (omega (arith, length-take a.v a.values.now)))
    (grown_more (line_of []) _ _ c.first_line-text.ensures c.values.ensures)

pub returns-in-1 : goal.returns-in-1
unfolding text_of bytes_of
returns-in-1 c = text-shown (text_known c.args.reply (take c.args.v c.args.values.now) c.in-1.is) (none_fits _ _ _) c.none_line.ensures

pub returns-in-2 : goal.returns-in-2
unfolding text_of bytes_of
returns-in-2 c =
    text-shown (text_known c.args.reply (take c.args.v c.args.values.now) c.in-2.is) (first_line_fits (bytes_of "UNDECIDED") _ (omega arith) (omega arith)) c.first_line.ensures

pub returns-in_default : goal.returns-in_default
unfolding text_of bytes_of
returns-in_default c =
    text-shown (text-refused c.args.reply (take c.args.v c.args.values.now) (omega arith)) (first_line_fits (bytes_of "REFUSED") _ (omega arith) (omega arith)) c.first_line-in_default.ensures
