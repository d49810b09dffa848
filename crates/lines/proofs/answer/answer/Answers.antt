-- `lines::answer::answer` meets its promise: the reply is the planner's, and the values are those of the file's positions. Assumes nothing.
use Rattle.std.proofs.Common.{ℕ, ap, ◌∙◌, take}
use Rattle.texts.specs.Grown.{line_of}
use Rattle.lines.specs.Text.{text_of}
use Rattle.lines.proofs.answer.answer.Goals as goal

pub returns : goal.returns
returns c =
    let reply = c.plan-reply.result in
    let after = c.plan-reply.new.answer in
    record {
      reply = reply;
      after = after;
      planned = c.plan-reply.ensures;
      said = c.reason-said.ensures;
      printed = c.text-printed.ensures ∙ ap (λ (v : ℕ). line_of (text_of reply (take v after))) c.positions-v.ensures;
    }
