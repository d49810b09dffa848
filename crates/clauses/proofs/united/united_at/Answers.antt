-- `clauses::united::united_at` meets its contract: turn by turn, by the laws of unions. Assumes nothing.
use Rattle.std.proofs.Common.{sym, ap, ◌∙◌, ℕ, List}
use Rattle.sets.specs.Sets.{union}
use Rattle.sets.proofs.Unions.{empty-union, union_onto}
use Rattle.rules.specs.declared.field.Atom.{Atom}
use Rattle.steps.specs.Shrinking.{united}
use Rattle.clauses.proofs.UnitedLaws.{united-here, united_elsewhere}
use Rattle.clauses.proofs.UnitedScan.{uniting_ends}
use Rattle.clauses.proofs.united.united_at.Goals as goal

pub loop-atom-init : goal.loop-atom-init
loop-atom-init c =
    let p = c.args.position in
    ap (united p) (sym (c.into_iter-atom-iterator.ensures.into_iter_gives ∙ c.atoms-atom-items.ensures)) ∙ sym (empty-union (united p c.into_iter-atom-iterator.result))

pub loop-atom-preserved-then-atom-position : goal.loop-atom-preserved-then-atom-position
loop-atom-preserved-then-atom-position c =
    let p = c.args.position in
    let all = c.loop-atom.all in
    let more = c.next.new.self in
    c.loop-atom.invariant ∙ ap (λ (atoms : List Atom). union all (united p atoms)) c.in-Some.ensures.steps
    ∙ ap (union all) (united-here c.in-Some.atom more p c.if-atom-position.true) ∙ union_onto all c.in-Some.atom.set (united p more)
    ∙ ap (λ (m : ℕ). union m (united p more)) (sym c.union-all.ensures.result)

pub loop-atom-preserved : goal.loop-atom-preserved
loop-atom-preserved c =
    let p = c.args.position in
    let all = c.loop-atom.all in
    c.loop-atom.invariant ∙ ap (λ (atoms : List Atom). union all (united p atoms)) c.in-Some.ensures.steps
    ∙ ap (union all) (united_elsewhere c.in-Some.atom c.next.new.self p c.if-atom-position.false)

pub returns : goal.returns
returns c = uniting_ends c.args.position c.loop-atom.all c.args.content.now c.loop-atom.invariant c.in-None.ensures.steps.0
