-- `clauses::look::first_live` meets its contract: by what its closure answers at an atom. Assumes nothing.
use Rattle.std.proofs.Common.{rules}
use Rattle.clauses.proofs.FirstFound.{callable_throughout, first_found}
use Rattle.clauses.proofs.look.first_live.Goals as goal

pub find_map-requires-clause-callable : goal.find_map-requires-clause-callable
find_map-requires-clause-callable c = callable_throughout _ _ _ (λ a q k. search rules) _ _ c.requires (λ a fit. search rules)

pub returns : goal.returns
returns c = first_found _ _ _ (λ a r q k. search rules) _ _ c.find_map.result _ c.requires c.find_map.ensures.ran c.find_map.ensures.runs
