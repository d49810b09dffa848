-- `at_most::rule::AtMostRule::of` meets its contract: the parts of the content are those of its rule. Assumes nothing.
use Rattle.std.proofs.Common.{ℕ, ap, length, get_or, take, drop, ◌-◌}
use Rattle.rules.specs.Rules.{at_most}
use Rattle.rules.specs.Reading.{rule_of}
use Rattle.at_most.proofs.rule.AtMostRule.of.Goals as goal

pub returns : goal.returns
unfolding rule_of
returns c =
    let bytes = c.args.content.now in
    ap (λ (set : ℕ). at_most (get_or bytes 0 0) set (take (length bytes - 5) (drop 5 bytes))) c.set_at.ensures
