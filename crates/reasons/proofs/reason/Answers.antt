-- `reasons::reason` meets its promise: the words of a NONE, of a refusal, or none, by the number. Assumes nothing.
use Rattle.std.proofs.Common.{arith, sym, ap, ◌∙◌}
use Rattle.texts.specs.Grown.{line_of}
use Rattle.reasons.proofs.WordLaws.{reason-none, reason-refused, reason_other}
use Rattle.reasons.proofs.reason.Goals as goal

pub returns-in-1 : goal.returns-in-1
returns-in-1 c = c.unmet.ensures ∙ ap line_of (sym (reason-none _ _ c.in-1.is))

pub returns-in_default : goal.returns-in_default
returns-in_default c = c.new.ensures ∙ ap line_of (sym (reason_other c.args.number c.args.place (omega arith) (omega arith)))

pub returns-in-10-to-4294967295 : goal.returns-in-10-to-4294967295
returns-in-10-to-4294967295 c = c.words.ensures ∙ ap line_of (sym (reason-refused _ _ (omega arith)))
