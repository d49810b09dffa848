-- `texts::Text::values` meets its contract: the first v values, or all where there are fewer, and the end of the line. Assumes nothing.
use Rattle.std.proofs.Common.{ap, ◌∙◌, List, ◌++◌, ℕ, take}
use Rattle.lists.proofs.TakeDrop.{take_smaller}
use Rattle.texts.specs.Bytes.{spaced, newline}
use Rattle.texts.proofs.GrownLaws.{grown_whole}
use Rattle.texts.proofs.Text.values.Goals as goal

pub returns : goal.returns
unfolding newline
returns c =
    let values = c.args.values.now in
    grown_whole c.args.self.now _ newline
    (ap (λ (n : ℕ). spaced (take n values) ++ newline) c.min-count.ensures ∙ ap (λ (xs : List ℕ). spaced xs ++ newline) (take_smaller c.args.v values))
    c.spaced.ensures c.byte.ensures
