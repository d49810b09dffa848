-- `texts::Text::new` meets its contract: the line of no bytes is zeros alone. Assumes nothing.
use Rattle.std.proofs.Common.{refl}
use Rattle.texts.specs.Grown.{text_over, line_of}
use Rattle.texts.proofs.Text.new.Goals as goal

pub returns : goal.returns
unfolding line_of text_over
returns c = refl
