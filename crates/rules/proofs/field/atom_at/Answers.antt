-- `rules::field::atom_at` meets its contract. Assumes nothing.
use Rattle.std.proofs.Common.{sym, ◌∙◌}
use Rattle.rules.proofs.Reading.ByteLaws.{atom-drop}
use Rattle.rules.proofs.field.atom_at.Goals as goal

pub returns : goal.returns
returns c = (λ i. record { position = c.from-position.ensures i; set = c.set_at-set.ensures i }) ∙ sym (atom-drop c.args.bytes.now c.args.at)
