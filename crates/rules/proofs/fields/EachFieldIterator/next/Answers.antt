-- `rules::fields::EachField::next` meets its contract: the first field, and the others. Assumes nothing.
use Rattle.std.proofs.Common.{arith, ◌≡◌, ap, ap₂, sym, take, drop, length, ◌∙◌, ℕ, ◌+◌, ◌-◌, ◌≤◌, List, ◌∷◌}
use lib.ListN.{length-drop}
use Rattle.rules.specs.declared.field.Head.{Head}
use Rattle.rules.specs.declared.field.Tag.{Tag}
use Rattle.rules.specs.Each.{Framed, frames_from}
use Rattle.rules.specs.Reading.{head_of, tag_of}
use Rattle.rules.proofs.Reading.EachLaws.{frames_short, frame_cut_off, frame_taken}
use Rattle.rules.proofs.fields.EachFieldIterator.next.Goals as goal

-- a field was taken: it stands at its place, and the next one where it ends
taken : (input : List ℕ) (at : ℕ) {place from end next : ℕ} {left : List Framed} {head : Head} {kind : Tag} → frames_from at (drop at input) ≡ left → at + 3 ≤ length input
    → head ≡ head_of (drop at input) → head.length ≤ length input - (at + 3) → kind ≡ tag_of head.tag → place ≡ at → from ≡ at + 3 → end ≡ at + 3 + head.length → next ≡ at + 3 + head.length
    → left ≡ record { place = place; kind = kind; content = take (end - from) (drop from input) } ∷ frames_from next (drop next input)
taken input at {kind = kind} view long here there is stands behind ends on =
    frame_taken input at view long here there is
    ∙ ap₂ (λ (f : Framed) (fs : List Framed). f ∷ fs)
    (λ i. record { place = (sym stands) i; kind = kind; content = take ((sym ends) i - (sym behind) i) (drop ((sym behind) i) input) })
    (ap (λ (k : ℕ). frames_from k (drop k input)) (sym on))

pub returns-then-self-from-clause-steps : goal.returns-then-self-from-clause-steps
returns-then-self-from-clause-steps c =
    let input = c.self.inside.input.now in
    let at = c.self.inside.at in
    let none = sym c.self.view_is ∙ frames_short at (drop at input) (omega (arith, length-drop at input, c.if-self-from.true)) in (none, none)

pub returns-then-self-end-clause-steps : goal.returns-then-self-end-clause-steps
returns-then-self-end-clause-steps c =
    let none = sym c.self.view_is ∙ frame_cut_off c.self.inside.input.now c.self.inside.at c.head_at-head.ensures.0 (omega (arith, c.if-self-end.true)) in (none, none)

pub overflow_add-end : goal.overflow_add-end
overflow_add-end c = omega (arith, c.head_at-head.ensures.1)

pub returns-clause-steps : goal.returns-clause-steps
returns-clause-steps c =
    taken c.self.inside.input.now c.self.inside.at c.self.view_is (omega arith) c.head_at-head.ensures.0 (omega arith) c.from.ensures (omega arith) (omega arith) (omega arith) (omega arith)

pub returns-clause-goes : goal.returns-clause-goes
returns-clause-goes c = let fewer = ap length (returns-clause-steps c) in record { on = λ _. (tt, tt, omega (arith, fewer)); keeps = tt; rests = λ _. tt }
