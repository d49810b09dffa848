-- `boxes::equality::look_inside` meets its contract: position by position, by the laws of looks in turn. Assumes nothing.
use Rattle.std.proofs.Common.{arith, ◌≡◌, ℕ, ◌+◌, ◌<◌, List, [], ◌∷◌, ap, length, get_or, drop, true, false}
use Rattle.std.proofs.lemmas.List.{drop_all}
use Rattle.rules.specs.Parts.{one_of, atom_in, each_inside}
use Rattle.boxes.proofs.EqualityLooks.{position_next, position_fits}
use Rattle.boxes.proofs.LooksInTurn.{left-none, left-dead-leaves, left_then, clause_keeps}
use Rattle.boxes.proofs.equality.look_inside.Goals as goal

-- the clause of the position at an index is the next
next : (m i p : ℕ) (ps : List ℕ) → i < length ps → p ≡ get_or ps i 0 → each_inside m (drop i ps) ≡ one_of (atom_in m p ∷ []) ∷ each_inside m (drop (i + 1) ps)
next m i p ps there e = ap (each_inside m) (position_next ps i p there e)

pub look_single-requires : goal.look_single-requires
look_single-requires c =
    let fits = position_fits _ c.args.positions.now c.requires c.loop-position.position-index c.from.result c.loop-position-test.true c.from.ensures in
    (fits.0, omega (arith, fits, c.loop-position.invariant.long))

pub returns-then-not-look_single : goal.returns-then-not-look_single
returns-then-not-look_single c =
    let a = c.args in
    left-dead-leaves c.loop-position.invariant (next a.set _ _ a.positions.now c.loop-position-test.true c.from.ensures) c.look_single.ensures
    c.if-not-look_single.true c.look_single.new.rooms

pub loop-position-preserved : goal.loop-position-preserved
loop-position-preserved c =
    let a = c.args in
    left_then c.loop-position.invariant (next a.set _ _ a.positions.now c.loop-position-test.true c.from.ensures) c.look_single.ensures
    (λ place k. clause_keeps place _ k) c.if-not-look_single.false

pub returns : goal.returns
returns c =
    let a = c.args in
    record { by = left-none c.loop-position.invariant (ap (each_inside a.set) (drop_all c.loop-position.position-index a.positions.now c.loop-position-test.false)) (λ _. false) true }
