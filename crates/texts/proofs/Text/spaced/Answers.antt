-- `texts::Text::spaced` meets its contract: the first value, and then those behind it. Assumes nothing.
use Rattle.std.proofs.Common.{sym, ap, ◌∙◌, ℕ, ◌++◌, ◌∷◌, length, arith, ◌<◌, ◌≡◌}
use Rattle.std.proofs.lemmas.Grind.{common_steps}
use Rattle.texts.specs.Bytes.{decimal, behind, spaced}
use Rattle.texts.proofs.GrownLaws.{grown_none, grown_whole}
use Rattle.texts.proofs.SpacedLaws.{spaced-none}
use Rattle.texts.proofs.Text.spaced.Goals as goal

pub returns-in-Some : goal.returns-in-Some
unfolding spaced
returns-in-Some c =
    let text = c.args.self.now in
    let rest = c.in-Some.rest.now in
    let whole : c.args.values.now ≡ c.in-Some.field-0-0.now ∷ rest = grind (arith, common_steps) in
    let first : decimal c.from.result ++ behind rest ≡ spaced c.args.values.now =
    ap (λ (x : ℕ). decimal x ++ behind rest) c.from.ensures ∙ sym (ap spaced whole) in
    grown_whole text _ (behind rest) first c.number.ensures c.all_behind.ensures

pub returns-in_default : goal.returns-in_default
returns-in_default c =
    let none : length c.args.values.now < 1 = grind (arith, common_steps) in
    grown_none c.args.self.now (spaced-none c.args.values.now none)
