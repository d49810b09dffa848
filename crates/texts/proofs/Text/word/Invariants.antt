-- `texts::Text::word`, the loop: the bytes so far are added. Assumes nothing.
use Rattle.std.proofs.Common.{take}
use Rattle.texts.specs.Promise.{Grows}
use Rattle.texts.proofs.Text.word.Given as goal

abbrev pub invariant-loop-b : goal.invariant-loop-b
invariant-loop-b l = Grows l.initial.self (take l.b-index l.word) l.self
