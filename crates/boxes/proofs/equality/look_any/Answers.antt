-- `boxes::equality::look_any` meets its contract: position by position, by the laws of the scan. Assumes nothing.
use Rattle.std.proofs.Common.{arith, ℕ, Bool, true, List, ◌≡◌, sym, ap, ◌∙◌}
use Rattle.std.proofs.lemmas.List.{drop_all}
use Rattle.sets.specs.Sets.{common, meets}
use Rattle.steps.specs.Shrinking.{look_part}
use Rattle.rooms.proofs.LookLaws.{leaves_same}
use Rattle.boxes.proofs.EqualityLooks.{starts, position_next, position_fits, test-meets, test_apart, met-passes, met-first, met-again, met_several, met-dead, met-only, met_there}
use Rattle.steps.specs.Boxes.{room_at}
use Rattle.boxes.proofs.equality.look_any.Goals as goal
use Rattle.boxes.proofs.equality.look_any.Goals.{in-Some+else-first-position, in_default}

-- a room that meets a set shares a value with it
shares : (box : List ℕ) (p m : ℕ) {room : ℕ} {r : Bool} → room ≡ room_at box p → r ≡ meets room m → r ≡ true → common (room_at box p) m ≡ 0 → ⊥
shares box p m {room} here e t none = test-meets room m e t (ap (λ (k : ℕ). common k m) here ∙ none)

pub loop-p-init : goal.loop-p-init
loop-p-init c = starts c.args.rooms.now.box _

pub loop-p-preserved-then-not-meets : goal.loop-p-preserved-then-not-meets
loop-p-preserved-then-not-meets c =
    let a = c.args in
    met-passes a.set a.positions.now a.rooms.now.box (position_next a.positions.now c.loop-p.p-index _ c.loop-p-test.true c.from-position.ensures)
    c.loop-p.live c.loop-p.invariant (ap (λ (room : ℕ). common room a.set) (sym c.at.ensures) ∙ test_apart c.at.result a.set c.meets.ensures.result c.if-not-meets.true)

pub returns-then-first-position : goal.returns-then-first-position
returns-then-first-position c =
    let a = c.args in
    let next = position_next a.positions.now c.loop-p.p-index _ c.loop-p-test.true c.from-position.ensures in
    let fits = position_fits _ a.positions.now c.requires c.loop-p.p-index _ c.loop-p-test.true c.from-position.ensures in
    let some = shares a.rooms.now.box c.from-position.result a.set c.at.ensures c.meets.ensures.result c.if-not-meets.false in
    leaves_same look_part _ a.rooms.now
    (met_several a.set a.positions.now a.rooms.now.box next fits.0 some c.loop-p.invariant c.in-Some.is (λ same. omega (arith, c.type_inv.positions c.loop-p.p-index)))

pub loop-p-preserved : goal.loop-p-preserved
loop-p-preserved c =
    let a = c.args in
    let next = position_next a.positions.now c.loop-p.p-index _ c.loop-p-test.true c.from-position.ensures in
    let fits = position_fits _ a.positions.now c.requires c.loop-p.p-index _ c.loop-p-test.true c.from-position.ensures in
    let some = shares a.rooms.now.box c.from-position.result a.set c.at.ensures c.meets.ensures.result c.if-not-meets.false in
    elim c.match-live.branch [
      | in-Some+else-first-position w ↦ met-again a.set a.positions.now a.rooms.now.box next fits.0 some c.loop-p.invariant w.in-Some.is
          (omega (arith, c.type_inv.positions c.loop-p.p-index)) w.live-is
      | in_default w ↦ met-first a.set a.positions.now a.rooms.now.box next fits.0 some c.loop-p.invariant w.in_default.is w.live-is
    ]

pub look_single-requires : goal.look_single-requires
look_single-requires c =
    let a = c.args in
    met_there a.set a.positions.now a.rooms.now (drop_all c.loop-p.p-index a.positions.now c.loop-p-test.false) c.in-Some-live.position c.loop-p.invariant c.in-Some-live.is

pub returns-in-None : goal.returns-in-None
returns-in-None c =
    let a = c.args in
    met-dead a.set a.positions.now a.rooms.now (drop_all c.loop-p.p-index a.positions.now c.loop-p-test.false) c.loop-p.invariant c.in-None.is a.rooms.now

pub returns-in-Some-live : goal.returns-in-Some-live
returns-in-Some-live c =
    let a = c.args in
    met-only a.set a.positions.now a.rooms.now (drop_all c.loop-p.p-index a.positions.now c.loop-p-test.false) c.in-Some-live.position c.loop-p.invariant c.in-Some-live.is c.look_single.ensures
