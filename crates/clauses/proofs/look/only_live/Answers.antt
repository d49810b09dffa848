-- `clauses::look::only_live` meets its contract: turn by turn, by the laws of the scan. Assumes nothing.
use Rattle.std.proofs.Common.{length, subst, sym, List}
use Rattle.rules.specs.declared.field.Atom.{Atom}
use Rattle.rules.specs.Contents.{AtomsFit}
use Rattle.clauses.specs.Scans.{Scanned}
use Rattle.clauses.proofs.AtomsInTurn.{fit_next}
use Rattle.clauses.proofs.ScanLaws.{nothing_shared, something_shared, scan-starts, scan_as, scan_passes, scan-meets, scan_another, scan_ends}
use Rattle.clauses.proofs.look.only_live.Goals as goal

pub loop-atom-init : goal.loop-atom-init
loop-atom-init c =
    let a = c.args in
    subst (λ (left : List Atom). AtomsFit (length a.rooms.now.box) left × Scanned a.rooms.now.box a.left left a.met.position a.met.kept a.met.kept) (sym c.into_iter-atom-iterator.ensures.into_iter_gives)
    (c.requires, scan-starts a.rooms.now.box a.left a.met.position a.met.kept)

pub returns-then-atom-met : goal.returns-then-atom-met
returns-then-atom-met c =
    let inv = c.loop-atom.invariant in
    let next = c.in-Some.ensures.steps in
    let fits = fit_next inv.0 next in
    let some = something_shared c.is_empty.ensures.result c.if-not-is_empty.true in
    scan_another inv.1 next c.at.ensures c.common-shared.ensures.result fits.0.0 c.if-atom-met.true some

pub loop-atom-preserved-then-not-is_empty : goal.loop-atom-preserved-then-not-is_empty
loop-atom-preserved-then-not-is_empty c =
    let inv = c.loop-atom.invariant in
    let next = c.in-Some.ensures.steps in (
      (fit_next inv.0 next).1,
      scan_as (scan-meets inv.1 next c.at.ensures c.common-shared.ensures.result c.if-atom-met.false) c.union-kept.ensures.result,
    )

pub loop-atom-preserved : goal.loop-atom-preserved
loop-atom-preserved c =
    let inv = c.loop-atom.invariant in
    let next = c.in-Some.ensures.steps in
    let none = nothing_shared c.is_empty.ensures.result c.if-not-is_empty.false in
    ((fit_next inv.0 next).1, scan_passes inv.1 next c.at.ensures c.common-shared.ensures.result none)

pub returns : goal.returns
returns c = scan_ends c.loop-atom.invariant.1 c.in-None.ensures.steps.0
