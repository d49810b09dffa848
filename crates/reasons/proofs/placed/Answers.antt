-- `reasons::placed` meets its contract: the place in words where it is a field's. Assumes nothing.
use Rattle.std.proofs.Common.{arith, sym, ap, ◌∙◌}
use Rattle.texts.specs.Bytes.{bytes_of}
use Rattle.texts.specs.Grown.{grown}
use Rattle.texts.proofs.GrownLaws.{grown_none}
use Rattle.reasons.proofs.WordLaws.{place_below, place_start, place_field_lem}
use Rattle.reasons.proofs.placed.Goals as goal
use Rattle.reasons.proofs.placed.Goals.{else-number-ge13-via-then-number-ge13+else-number-ne14, else-number-ge13-via-else-number-ge13}

pub returns-then-number-ne14 : goal.returns-then-number-ne14
unfolding bytes_of
returns-then-number-ne14 c =
    c.around.ensures ∙ ap (grown c.args.text.now) (sym (place_field_lem c.args.number c.args.place (omega arith) c.if-number-ne14.true))

pub returns-else-number-ge13 : goal.returns-else-number-ge13
returns-else-number-ge13 c =
    elim c.else-number-ge13.branch [
      | else-number-ge13-via-then-number-ge13+else-number-ne14 w ↦ grown_none c.args.text.now (place_start c.args.number c.args.place w.if-number-ne14.false)
      | else-number-ge13-via-else-number-ge13 w ↦ grown_none c.args.text.now (place_below c.args.number c.args.place (omega arith))
    ]
