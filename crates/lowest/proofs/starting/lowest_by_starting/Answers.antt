-- `lowest::starting::lowest_by_starting` meets its contract: as the clause of its one atom. Assumes nothing.
use Rattle.std.proofs.Common.{◌≡◌, ◌∙◌, ◌<◌, ◌^◌, ℕ, List, sym, ap, arith, length, subst}
use Rattle.sets.specs.Sets.{inside, meets}
use Rattle.rules.specs.declared.field.Atom.{Atom}
use Rattle.rules.specs.Contents.{Atoms, AtomsFit}
use Rattle.rules.specs.Reading.{atom_of}
use Rattle.rules.proofs.Reading.ContentLaws.{one_atom}
use Rattle.rules.specs.Writing.{PositionFits}
use Rattle.lowest.proofs.LiveAtoms.{start_higher, start_apart, start_inside, start_open}
use Rattle.lowest.proofs.starting.lowest_by_starting.Goals as goal
use Rattle.lowest.proofs.starting.lowest_by_starting.Goals.{then-not-meets-via-then-not-meets, then-not-meets-via-else-not-meets+then-inside}

-- its one atom is on a position from 1 to v
position : {v : ℕ} {content : List ℕ} {a : Atom} → length content ≡ 5 → Atoms v (length content) content → a ≡ atom_of content → PositionFits v a.position
position {v} {content} five atoms here =
    subst (λ (b : Atom). PositionFits v b.position) (sym here) (subst (AtomsFit v) (one_atom (length content) content five) atoms.fit).0

pub overflow_sub-i : goal.overflow_sub-i
overflow_sub-i c = (position c.requires.0 c.requires.1 c.atom_at-atom.ensures).0

pub at-room-requires : goal.at-room-requires
at-room-requires c = position c.requires.0 c.requires.1 c.atom_at-atom.ensures

pub returns-then-bound-i : goal.returns-then-bound-i
returns-then-bound-i c = start_higher c.args.rooms.now.box c.args.content.now c.args.bound c.atom_at-atom.ensures c.if-bound-i.true

pub returns-then-not-meets : goal.returns-then-not-meets
returns-then-not-meets c =
    let set = c.atom_at-atom.result.set in
    elim c.then-not-meets.branch [
      | then-not-meets-via-then-not-meets w ↦ start_apart c.args.rooms.now.box c.args.content.now c.args.bound c.atom_at-atom.ensures
          (sym (c.meets.ensures.result ∙ ap (λ (room : ℕ). meets room set) c.at-room.ensures) ∙ w.if-not-meets.true)
      | then-not-meets-via-else-not-meets+then-inside w ↦ start_inside c.args.rooms.now.box c.args.content.now c.args.bound c.atom_at-atom.ensures
          (sym (w.inside.ensures.result ∙ ap (λ (room : ℕ). inside room set) c.at-room.ensures) ∙ w.if-inside.true)
    ]

pub returns : goal.returns
returns c =
    let set = c.atom_at-atom.result.set in
    let mask = subst (λ (room : ℕ). room < 2 ^ 32) c.at-room.ensures (omega (arith, c.at-room.type_inv)) in
    start_open c.args.rooms.now.box c.args.content.now c.args.bound c.atom_at-atom.ensures (position c.requires.0 c.requires.1 c.atom_at-atom.ensures).0 mask c.if-bound-i.false
    (sym (c.meets.ensures.result ∙ ap (λ (room : ℕ). meets room set) c.at-room.ensures) ∙ c.if-not-meets.false)
    (sym (c.inside.ensures.result ∙ ap (λ (room : ℕ). inside room set) c.at-room.ensures) ∙ c.if-inside.false)
