-- `choosing::choose::choose` meets its contract: field by field, and in a clause atom by atom. Assumes nothing.
use Rattle.std.proofs.Common.{◌<◌, ◌^◌, ℕ, ◌≡◌, refl, ◌∙◌, sym, ap, subst, inl, inr, arith, rules, List, length}
use mathlib.Core.Path.{ap₂}
use mathlib.Core.Bool.{true, false}
use lib.Dec.{T}
use Rattle.lists.proofs.TestLaws.{true_test}
use Rattle.rules.specs.declared.field.Tag.{Tag}
use Rattle.rules.specs.declared.field.Tag.TheVariants.{Clause}
use Rattle.rules.specs.Reading.{rule_of}
use Rattle.rules.specs.Sound.{fields_in}
use Rattle.sets.specs.Sets.{meets}
use Rattle.steps.specs.Boxes.{room_at}
use Rattle.steps.specs.Search.{chosen}
use Rattle.clauses.proofs.SettledClauses.{set_settles}
use Rattle.lowest.specs.LowestBy.{lowest_by}
use Rattle.lowest.proofs.LiveAtoms.{atom_left-listed, atoms_left_lower, atoms_left_on, clause_shut, clause_dull, clause_open}
use Rattle.choosing.specs.FirstWide.{index_below, first_wide}
use Rattle.choosing.proofs.ChosenFields.{FieldsLeft, index-none, index-found, index-missing, fields_left_start, fields_left-none, fields_left_narrow, fields_left_on}
use Rattle.choosing.proofs.choose.choose.Goals as goal
use Rattle.choosing.proofs.choose.choose.Goals.{in-None, in-Some+then-best-first, else-i-low-via-then-i-low+else-meets, else-i-low-via-else-i-low, else-low-best-via-then-low-best+else-not-settled_united, else-low-best-via-else-low-best}

-- the rule of a content, by the kind that its field has
by_kind : (box content : List ℕ) (best : ℕ) {kind : Tag} {r : ℕ} → kind ≡ Clause → r ≡ lowest_by box (rule_of Clause (length content) content) best
    → r ≡ lowest_by box (rule_of kind (length content) content) best
by_kind box content best is e = e ∙ ap (λ (k : Tag). lowest_by box (rule_of k (length content) content) best) (sym is)

pub returns-in_err-first : goal.returns-in_err-first
returns-in_err-first c =
    let box = c.args.rooms.now.box in
    let all = fields_left_narrow (fields_left_start c.requires refl) (index-missing (length box) (first_wide box) c.in_err-first.ensures) in
    c.from_residual.ensures ∙ index-none (omega (arith, all))

pub fields-init : goal.fields-init
fields-init c =
    subst (FieldsLeft c.args.input.now c.args.rooms.now.box c.into_iter-field-iterator.result) (omega arith)
    (fields_left_start c.requires (c.into_iter-field-iterator.ensures.into_iter_gives ∙ c.fields-field-items.ensures))

pub fields-preserved-then-ne : goal.fields-preserved-then-ne
fields-preserved-then-ne c = fields_left_on c.fields.invariant c.in-Some.ensures.steps c.lowest_by_kind-best.ensures

pub fields-preserved-then-inside : goal.fields-preserved-then-inside
fields-preserved-then-inside c =
    let kind : c.in-Some.field.kind ≡ Clause = search rules in
    let going = c.loop-atom.invariant in
    let settled = set_settles c.args.rooms.now.box _ (atom_left-listed going c.in-Some-atom.ensures.steps) c.at-room.ensures c.inside.ensures.result c.if-inside.true in
    fields_left_on c.fields.invariant c.in-Some.ensures.steps (by_kind c.args.rooms.now.box c.in-Some.field.content.now c.fields.best kind (clause_shut c.in-Some.field.content.now going settled))

pub loop-atom-preserved-then-meets : goal.loop-atom-preserved-then-meets
loop-atom-preserved-then-meets c =
    let met : meets (room_at c.args.rooms.now.box c.in-Some-atom.atom.position) c.in-Some-atom.atom.set ≡ true = search rules in
    atoms_left_lower c.loop-atom.invariant c.in-Some-atom.ensures.steps (subst (λ (room : ℕ). room < 2 ^ 32) c.at-room.ensures (omega (arith, c.at-room.type_inv))) (omega arith) (true_test _ met)

pub loop-atom-preserved : goal.loop-atom-preserved
loop-atom-preserved c =
    atoms_left_on c.loop-atom.invariant c.in-Some-atom.ensures.steps (subst (λ (room : ℕ). room < 2 ^ 32) c.at-room.ensures (omega (arith, c.at-room.type_inv)))
    (elim c.else-i-low.branch [
      | else-i-low-via-then-i-low+else-meets w ↦ let unmet : meets (room_at c.args.rooms.now.box c.in-Some-atom.atom.position) c.in-Some-atom.atom.set ≡ false = search rules in inr (λ t. subst T unmet t)
      | else-i-low-via-else-i-low w ↦ inl (omega arith)
    ])

pub fields-preserved-then-not-settled_united : goal.fields-preserved-then-not-settled_united
fields-preserved-then-not-settled_united c =
    let kind : c.in-Some.field.kind ≡ Clause = search rules in
    fields_left_on c.fields.invariant c.in-Some.ensures.steps
    (by_kind c.args.rooms.now.box c.in-Some.field.content.now c.fields.best kind (clause_open c.in-Some.field.content.now c.loop-atom.invariant c.in-None-atom.ensures.steps.0 (sym c.if-not-settled_united.ensures)))

pub fields-preserved : goal.fields-preserved
fields-preserved c =
    let kind : c.in-Some.field.kind ≡ Clause = search rules in
    fields_left_on c.fields.invariant c.in-Some.ensures.steps
    (by_kind c.args.rooms.now.box c.in-Some.field.content.now c.fields.best kind
    (elim c.else-low-best.branch [
      | else-low-best-via-then-low-best+else-not-settled_united w ↦ clause_shut c.in-Some.field.content.now c.loop-atom.invariant (sym w.if-not-settled_united.ensures)
      | else-low-best-via-else-low-best w ↦ clause_dull c.in-Some.field.content.now c.loop-atom.invariant c.in-None-atom.ensures.steps.0 w.if-low-best.false
    ]))

pub returns : goal.returns
returns c =
    let best : c.fields.best ≡ chosen (fields_in c.args.input.now) c.args.rooms.now.box =
    elim c.match-next.branch [
      | in-None w ↦ fields_left-none c.fields.invariant w.in-None.ensures.steps.0
      | in-Some+then-best-first w ↦ fields_left_narrow c.fields.invariant (omega (arith, w.if-best-first.true, index-found (length c.args.rooms.now.box) (first_wide c.args.rooms.now.box) c.in_ok-first.ensures))
    ]
    in
    c.then_some.ensures ∙ ap₂ index_below (omega arith) best
