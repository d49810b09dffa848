-- `contents::naming::twice_fault` meets its contract: where a position is marked already it is named twice, else the search goes on. Assumes nothing.
use Rattle.std.proofs.Common.{sym, ◌∙◌}
use Rattle.rules.specs.Fault.{number_of, number_told}
use Rattle.contents.proofs.NamingLaws.{naming-starts, naming_ends, naming-found, naming_passes}
use Rattle.contents.proofs.naming.twice_fault.Goals as goal

pub loop-position-init : goal.loop-position-init
loop-position-init c = naming-starts _ c.requires c.none-seen.ensures

pub returns-then-has : goal.returns-then-has
unfolding number_of number_told
returns-then-has c = sym (naming-found c.loop-position.invariant c.loop-position-test.true (sym c.has.ensures.result ∙ c.if-has.true))

pub loop-position-preserved : goal.loop-position-preserved
loop-position-preserved c = naming_passes c.loop-position.invariant c.loop-position-test.true (sym c.has.ensures.result ∙ c.if-has.false) c.with-seen.ensures.result

pub returns : goal.returns
unfolding number_told
returns c = sym (naming_ends c.loop-position.invariant c.loop-position-test.false)
