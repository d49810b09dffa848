-- `clauses::settle::settled_united` meets its contract: turn by turn, by the laws of settled clauses. Assumes nothing.
use Rattle.std.proofs.Common.{length, sym, ◌∙◌, subst}
use lib.Dec.{T}
use Rattle.lists.proofs.TestLaws.{true_test}
use Rattle.rules.specs.Contents.{AtomsFit}
use Rattle.rules.specs.Each.{atoms_in}
use Rattle.clauses.proofs.AtomsInTurn.{fit_next}
use Rattle.clauses.proofs.SettledClauses.{set_settles, trying-starts, trying_ends, trying_listed, trying_passes, trying-meets, trying_knows, trying_settles, trying_tries}
use Rattle.clauses.proofs.settle.settled_united.Goals as goal

pub loop-atom-init : goal.loop-atom-init
loop-atom-init c =
    let all = c.into_iter-atom-iterator.ensures.into_iter_gives ∙ c.atoms-atom-items.ensures in
    (subst (AtomsFit (length c.args.rooms.now.box)) (sym all) c.requires.fit, trying-starts c.args.rooms.now.box all c.none-met.ensures c.none-tried.ensures)

pub returns-then-inside : goal.returns-then-inside
returns-then-inside c =
    sym (set_settles c.args.rooms.now.box (atoms_in c.args.content.now) (trying_listed c.loop-atom.invariant.1 c.in-Some.ensures.steps) c.at-room.ensures c.inside.ensures.result c.if-inside.true)

pub loop-atom-preserved-then-not-meets : goal.loop-atom-preserved-then-not-meets
loop-atom-preserved-then-not-meets c =
    let next = c.in-Some.ensures.steps in
    let fits = fit_next c.loop-atom.invariant.0 next in
    (fits.1, trying_passes c.loop-atom.invariant.1 next fits.0.0 c.at-room.ensures c.inside.ensures.result c.if-inside.false c.meets.ensures.result c.if-not-meets.true)

pub loop-atom-preserved-then-not-has : goal.loop-atom-preserved-then-not-has
loop-atom-preserved-then-not-has c =
    let next = c.in-Some.ensures.steps in
    let fits = fit_next c.loop-atom.invariant.0 next in (
      fits.1,
      trying-meets c.loop-atom.invariant.1 next fits.0.0 c.at-room.ensures c.inside.ensures.result c.if-inside.false
          (λ u. subst T (sym c.has.ensures.result ∙ c.if-not-has.true) u) c.with-met.ensures.result,
    )

pub loop-atom-preserved-then-has : goal.loop-atom-preserved-then-has
loop-atom-preserved-then-has c =
    let next = c.in-Some.ensures.steps in
    let fits = fit_next c.loop-atom.invariant.0 next in
    let again = true_test _ (sym c.has.ensures.result ∙ c.if-not-has.false) in (
      fits.1,
      trying_knows c.loop-atom.invariant.1 next fits.0.0 c.at-room.ensures c.inside.ensures.result c.if-inside.false again
          (true_test _ (sym c.has-in-loop-atom.ensures.result ∙ c.if-has.true)),
    )

pub returns-then-inside-2 : goal.returns-then-inside-2
returns-then-inside-2 c =
    let next = c.in-Some.ensures.steps in
    let fits = fit_next c.loop-atom.invariant.0 next in
    let again = true_test _ (sym c.has.ensures.result ∙ c.if-not-has.false) in
    sym (trying_settles c.loop-atom.invariant.1 next fits.0.0 c.at-room.ensures c.inside.ensures.result c.if-inside.false again c.united_at-all.ensures
    c.inside-in-loop-atom.ensures.result c.if-inside-2.true)

pub loop-atom-preserved : goal.loop-atom-preserved
loop-atom-preserved c =
    let next = c.in-Some.ensures.steps in
    let fits = fit_next c.loop-atom.invariant.0 next in
    let again = true_test _ (sym c.has.ensures.result ∙ c.if-not-has.false) in (
      fits.1,
      trying_tries c.loop-atom.invariant.1 next fits.0.0 c.at-room.ensures c.inside.ensures.result c.if-inside.false again c.united_at-all.ensures
          c.inside-in-loop-atom.ensures.result c.if-inside-2.false c.with-tried.ensures.result,
    )

pub returns : goal.returns
returns c = sym (trying_ends c.loop-atom.invariant.1 c.in-None.ensures.steps.0)
