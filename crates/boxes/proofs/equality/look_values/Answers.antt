-- `boxes::equality::look_values` meets its contract: value by value, by the laws of looks in turn. Assumes nothing.
use Rattle.std.proofs.Common.{arith, ℕ, ◌^◌, ◌<◌, List, map, true, false, Bool, refl, sym, ap, ◌∙◌, ◌≡◌, subst}
use Rattle.sets.specs.Sets.{count, single, smallest, others}
use Rattle.sets.proofs.Smallest.{others_below, count-others}
use Rattle.rules.specs.Contents.{PositionsFit}
use Rattle.rules.specs.Parts.{one_of, atom_in}
use Rattle.steps.specs.Shrinking.{look_part}
use Rattle.rooms.specs.Held.{Held}
use Rattle.rooms.specs.Looks.{Leaves}
use Rattle.clauses.proofs.ScanLaws.{nothing_shared, something_shared}
use Rattle.boxes.proofs.EqualityLooks.{next_value, no_value}
use Rattle.boxes.proofs.LooksInTurn.{left-none, left-dead-leaves, left_then, clause_keeps}
use Rattle.boxes.proofs.equality.look_values.Goals as goal

-- a turn looks at the clause of the smallest value that is left
looked_at : (m small left : ℕ) (ps : List ℕ) (before : Held) {r : Bool} {after : Held} → m ≡ single small → small ≡ smallest left → Leaves look_part (one_of (map (atom_in m) ps)) before r after
    → Leaves look_part (one_of (map (atom_in (single (smallest left))) ps)) before r after
looked_at m small left ps before {r} {after} one least found =
    subst (λ (k : ℕ). Leaves look_part (one_of (map (atom_in k) ps)) before r after) (one ∙ ap single least) found

pub look_any-requires : goal.look_any-requires
look_any-requires c = subst (λ (v : ℕ). PositionsFit v c.args.positions.now) c.loop-left.invariant.1.long c.requires

pub returns-then-not-look_any : goal.returns-then-not-look_any
returns-then-not-look_any c =
    let left = c.loop-left.left in
    let inv = c.loop-left.invariant in
    left-dead-leaves inv.1 (next_value _ left (others left) inv.0 (something_shared c.is_empty.ensures.result c.loop-left-test.true) refl)
    (looked_at _ _ left _ _ c.single-one.ensures.result c.smallest.ensures.result c.look_any.ensures) c.if-not-look_any.true c.look_any.new.rooms

pub loop-left-smaller : goal.loop-left-smaller
loop-left-smaller c =
    let left = c.loop-left.left in
    omega (arith, ap count c.others-left.ensures.result, count-others left c.loop-left.invariant.0 (something_shared c.is_empty.ensures.result c.loop-left-test.true))

pub loop-left-preserved : goal.loop-left-preserved
loop-left-preserved c =
    let left = c.loop-left.left in
    let inv = c.loop-left.invariant in
    let others-left = c.others-left.ensures.result in (
      subst (λ (m : ℕ). m < 2 ^ 32) (sym others-left) (others_below left inv.0),
      left_then inv.1
          (next_value _ left _ inv.0 (something_shared c.is_empty.ensures.result c.loop-left-test.true) others-left)
          (looked_at _ _ left _ _ c.single-one.ensures.result c.smallest.ensures.result c.look_any.ensures) (λ place k. clause_keeps place _ k) c.if-not-look_any.false,
    )

pub returns : goal.returns
returns c =
    let left = c.loop-left.left in
    record { by = left-none c.loop-left.invariant.1 (no_value _ left (nothing_shared c.is_empty.ensures.result c.loop-left-test.false)) (λ _. false) true }
