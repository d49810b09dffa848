-- `texts::Text::as_bytes` meets its contract: as many bytes as `len` says, or all where there are fewer. Assumes nothing.
use Rattle.std.proofs.Common.{rules, sym, ap, ◌∙◌, ◌≡◌, ℕ, min, take, length}
use Rattle.lists.proofs.TakeDrop.{take_smaller}
use Rattle.texts.specs.Grown.{shown}
use Rattle.texts.proofs.Text.as_bytes.Goals as goal

pub returns-clause-value : goal.returns-clause-value
unfolding shown
returns-clause-value c =
    let text = c.args.self.now in
    let whole : length text.bytes ≡ 2048 = search rules in
    ap (λ (n : ℕ). take n text.bytes) (c.min.ensures ∙ ap (λ (n : ℕ). min text.len n) (sym whole)) ∙ take_smaller text.len text.bytes
