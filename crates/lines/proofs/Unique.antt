-- Any two texts that a promise of `src/` allows are equal, for each public function. Assumes nothing.
use mathlib.Core.Path.{◌≡◌, ap, ap₂, sym, ◌∙◌}
use mathlib.Core.List.{List}
use Prim.Native.Nat.{ℕ}
use lib.ListN.{take, replicate}
use Rattle.sets.proofs.Unique.{one-result}
use Rattle.rules.specs.Reading.{reading}
use Rattle.searching.specs.declared.reply.Reply.{Reply}
use Rattle.planner.proofs.Unique.{plan_unique}
use Rattle.texts.specs.declared.Text.{Text}
use Rattle.texts.specs.Grown.{line_of}
use Rattle.reasons.specs.Words.{reason_of}
use Rattle.lines.specs.declared.answer.Output.{Output}
use Rattle.lines.specs.Text.{text_of}
use Rattle.lines.specs.Printed.{Shown, Printed, positions_of}

-- `text`
pub text_unique : (reply : Reply) (values : List ℕ) (v : ℕ) {r s : Text} → Shown reply values v r → Shown reply values v s → r ≡ s
text_unique reply values v p q = one-result p q

-- `answer`: the planner allows one reply and one later buffer, and these have one text and one line of words
pub answer_unique : (input : List ℕ) {r s : Output} → Printed input r → Printed input s → r ≡ s
answer_unique input p q =
    let same = plan_unique input (replicate 64 0) p.after q.after 100000 p.reply q.reply p.planned q.planned in
    ap₂ (λ (printed said : Text). record { printed = printed; said = said })
    (p.printed
    ∙ ap₂ (λ (shown : Reply) (after : List ℕ). line_of (text_of shown (take (positions_of (reading input)) after))) same.0 same.1
    ∙ sym q.printed)
    (p.said ∙ ap (λ (shown : Reply). line_of (reason_of shown.number shown.place)) same.0 ∙ sym q.said)
