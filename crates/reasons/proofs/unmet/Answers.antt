-- `reasons::unmet` meets its contract: the place with the words around it, where there is one. Assumes nothing.
use Rattle.std.proofs.Common.{sym, ap, ◌∙◌}
use Rattle.texts.specs.Bytes.{bytes_of}
use Rattle.texts.specs.Grown.{line_of}
use Rattle.texts.proofs.GrownLaws.{line_made}
use Rattle.reasons.proofs.WordLaws.{unmet-none, unmet-named, unmet_fits}
use Rattle.reasons.proofs.unmet.Goals as goal

pub returns-then-place-ne0 : goal.returns-then-place-ne0
unfolding bytes_of
returns-then-place-ne0 c = line_made _ (unmet_fits _) c.new-line.ensures c.around.ensures ∙ ap line_of (sym (unmet-named _ c.if-place-ne0.true))

pub returns-else-place-ne0 : goal.returns-else-place-ne0
returns-else-place-ne0 c = c.new-line.ensures ∙ ap line_of (sym (unmet-none _ c.if-place-ne0.false))
