-- `texts::Text::all_behind`, the loop: the values so far are added. Assumes nothing.
use Rattle.std.proofs.Common.{take}
use Rattle.texts.specs.Bytes.{behind}
use Rattle.texts.specs.Promise.{Grows}
use Rattle.texts.proofs.Text.all_behind.Given as goal

abbrev pub invariant-loop-value : goal.invariant-loop-value
invariant-loop-value l = Grows l.initial.self (behind (take l.value-index l.values)) l.self
