-- `texts::Text::number`: the measure is the number. Assumes nothing.
use Rattle.texts.proofs.Text.+number.Given as goal

abbrev pub decreases-number : goal.decreases-number
decreases-number l = l.n
