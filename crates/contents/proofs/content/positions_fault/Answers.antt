-- `contents::content::positions_fault` meets its contract: the first fault is that of the position, else that of the positions behind it. Assumes nothing.
use Rattle.std.proofs.Common.{◌≡◌, sym, ap, ◌∙◌, List, ℕ, ◌+◌, ◌<◌, length, get_or, drop}
use Rattle.std.proofs.lemmas.List.{drop_all}
use Rattle.rules.specs.Fault.{number_told}
use Rattle.rules.specs.Reading.{or_else, position_fault, positions_fault}
use Rattle.lists.proofs.TakeDrop.{drop_next}
use Rattle.contents.proofs.FaultLaws.{told_first, none_told}
use Rattle.contents.proofs.content.positions_fault.Goals as goal

-- the positions from an index on: the one there, and those behind it
from_on : (v i : ℕ) (ps : List ℕ) → i < length ps → positions_fault v (drop i ps) ≡ or_else (position_fault v (get_or ps i 0)) (positions_fault v (drop (i + 1) ps))
unfolding positions_fault
from_on v i ps there = ap (positions_fault v) (drop_next ps i there)

pub returns-in_err-position_fault : goal.returns-in_err-position_fault
returns-in_err-position_fault c =
    told_first _ _ _ c.from_residual.ensures.1 (c.in_err-position_fault.ensures ∙ ap (position_fault c.args.v) c.from.ensures)
    ∙ sym (c.loop-position.invariant ∙ from_on _ _ _ c.loop-position-test.true)

pub loop-position-preserved : goal.loop-position-preserved
loop-position-preserved c =
    c.loop-position.invariant ∙ from_on _ _ _ c.loop-position-test.true ∙ sym (none_told _ (c.in_ok-position_fault.ensures ∙ ap (position_fault c.args.v) c.from.ensures))

pub returns : goal.returns
unfolding number_told positions_fault
returns c = sym (c.loop-position.invariant ∙ ap (positions_fault c.args.v) (drop_all _ _ c.loop-position-test.false))
