-- `texts::Text::number` meets its contract: the digits of the tenth, where there are any, and then the last. Assumes nothing.
use Rattle.std.proofs.Common.{arith, sym, ap, ◌∙◌, ◌∷◌, [], ◌+◌, ◌/◌, ◌%◌, mod-eq_of_lt}
use Rattle.texts.specs.Bytes.{decimal}
use Rattle.texts.specs.Grown.{grown}
use Rattle.texts.specs.declared.Text.{Text}
use Rattle.texts.proofs.DigitLaws.{decimal_small, decimal_large}
use Rattle.texts.proofs.GrownLaws.{grown_whole}
use Rattle.texts.proofs.Text.+number.Goals as goal
use Rattle.texts.proofs.Text.+number.Goals.{then-n-ge10, else-n-ge10}

pub returns : goal.returns
returns t c =
    let text = c.args.self.now in
    let n = c.args.n in
    elim c.if-n-ge10.branch [
      | then-n-ge10 w ↦ grown_whole text (decimal (n / 10)) _ (sym (decimal_large n w.if-n-ge10.true (omega arith))) (w.self-is ∙ w.number.ensures) c.byte.ensures
      | else-n-ge10 w ↦ c.byte.ensures ∙ ap (λ (t : Text). grown t ((48 + n % 10) ∷ [])) w.self-is ∙ ap (grown text) (ap (λ d. (48 + d) ∷ []) (mod-eq_of_lt w.if-n-ge10.false) ∙ sym (decimal_small n w.if-n-ge10.false))
    ]
