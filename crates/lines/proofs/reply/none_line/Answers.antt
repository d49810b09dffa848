-- `lines::reply::none_line` meets its contract: the counts, and behind them the place where there is one. Assumes nothing.
use Rattle.std.proofs.Common.{arith, sym, ◌∙◌, []}
use Rattle.texts.specs.Bytes.{bytes_of, newline}
use Rattle.texts.specs.Grown.{line_of}
use Rattle.texts.proofs.GrownLaws.{grown_whole}
use Rattle.lines.proofs.TextLaws.{begun_more, line-ended, none-short, none_long}
use Rattle.lines.proofs.reply.none_line.Goals as goal
use Rattle.lines.proofs.reply.none_line.Goals.{then-place-ne0, else-place-ne0}

pub returns : goal.returns
unfolding newline bytes_of
returns c =
    let a = c.args in
    elim c.if-place-ne0.branch [
      | then-place-ne0 w ↦
          let all = grown_whole (line_of []) _ _ (begun_more (bytes_of "NONE") a.splits a.dead_ends a.place) c.begun-counts.ensures w.behind.ensures in
          grown_whole (line_of []) _ newline (line-ended _ _ ∙ sym (none_long _ _ a.place (λ none. omega arith))) (w.counts-is ∙ all) c.byte.ensures
      | else-place-ne0 w ↦
          grown_whole (line_of []) _ newline (line-ended _ _ ∙ sym (none-short _ _ a.place (omega arith))) (w.counts-is ∙ c.begun-counts.ensures) c.byte.ensures
    ]
