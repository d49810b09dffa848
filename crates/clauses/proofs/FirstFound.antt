-- The scan for the first live position by `find_map`, whose closure answers at an atom with what its position's room shares with its set, or with `None`: what its calls ask and what they find. Assumes nothing.
use mathlib.Core.Path.{◌≡◌, refl, sym, ap, ◌∙◌, subst}
use mathlib.Core.List.{List, [], ◌∷◌}
use mathlib.Core.Bool.{true, false, true≢false}
use Prim.Native.Nat.{ℕ, zero, suc}
use lib.ListN.{length}
use denote.Param.Members.{Mut, Called}
use Rattle.std.specs.Prelude.{Option, Some, None, is_some, IfSome, slice_get, MatchOption}
use Rattle.std.specs.List.{FoldsTo}
use Rattle.std.specs.Iterator.{Yields, YieldsFirst, FindsMapped, CallableAtEachTurn}
use Rattle.std.specs.Iterator.Runs.{Run, YieldsRun, SomeRun, AllItemsGive}
use Rattle.sets.specs.Sets.{common, is_empty}
use Rattle.rules.specs.declared.field.Atom.{Atom}
use Rattle.rules.specs.Contents.{AtomsFit}
use Rattle.rules.specs.Writing.{PositionFits}
use Rattle.steps.specs.Boxes.{room_at}
use Rattle.clauses.specs.declared.look.Met.{Met}
use Rattle.clauses.specs.Scans.{shared_in, FirstMet, MetOne}
use Rattle.clauses.proofs.AtomsInTurn.{fit_next}
use Rattle.clauses.proofs.ScanLaws.{nothing_shared, something_shared, NoneMet, none_met-passes, met_first, shared_none, shared_passed}

-- what the closure answers at an atom
abbrev pub AnswersAt : List ℕ → Atom → Option Met → Type 0
AnswersAt box a r = MatchOption r (is_empty (common (room_at box a.position) a.set) ≡ true) (λ met. (met.position ≡ a.position) × (met.kept ≡ common (room_at box a.position) a.set) × (is_empty met.kept ≡ false))

abbrev atoms_first : List Atom → Option Atom → List Atom → Type 0
atoms_first = YieldsFirst (λ (atoms : List Atom). atoms)

-- ---- what the calls ask

module _ {F : Type 0} (R : F → Atom → F → Type 0) (f : F) (v : ℕ) (stays : (a : Atom) (q : F) → R f a q → q ≡ f) where
  -- it is still as it was, and the atoms that are left fit
  still : (xs left t : List Atom) (q : F) → AtomsFit v left → Yields atoms_first left xs t → FoldsTo R f xs q → (q ≡ f) × AtomsFit v t
  still [] left t q fit y c = (sym c, subst (AtomsFit v) y fit)
  still (x ∷ xs) left t q fit y c = still xs y.0 t q (fit_next fit y.1).1 y.2 (subst (λ (k : F). FoldsTo R k xs q) (stays x c.0 c.1) c.2)

  -- a closure that each call leaves as it was may be called at each atom on a position of the box
  pub callable_throughout : (Q : F → Atom → Type 0) (left : List Atom) → AtomsFit v left → ((a : Atom) → PositionFits v a.position → Q f a) → CallableAtEachTurn atoms_first R Q left f
  callable_throughout Q left fit takes = record {
    at = λ xs t q x u y c e.
        let m = still xs left t q fit y c in
        subst (λ (k : F). Q k x) (sym m.0) (takes x (fit_next m.1 e).0);
  }

-- ---- what the calls find

-- where each atom is answered with `None` no position is live
all_passed : (box : List ℕ) (xs left t : List Atom) → Yields atoms_first left xs t → t ≡ [] → ((k : ℕ) → IfSome (slice_get xs k) (λ a. AnswersAt box a None)) → (q : ℕ) → shared_in box left q ≡ 0
all_passed box [] left t y e h q = ap (λ (atoms : List Atom). shared_in box atoms q) (y ∙ e) ∙ shared_none box q
all_passed box (x ∷ xs) left t y e h q = ap (λ (atoms : List Atom). shared_in box atoms q) y.1 ∙ shared_passed box x y.0 (nothing_shared refl (h zero)) q ∙ all_passed box xs y.0 t y.2 e (λ k. h (suc k)) q

module _ {F : Type 0} (g : Mut F (Atom × Unit {0}) (Option Met)) (f : F) (box : List ℕ) (answers : (a : Atom) (r : Option Met) (q : F) → Called g f (a, tt) r q → (q ≡ f) × AnswersAt box a r) where
  -- after atoms that were answered with `None` it is as it was, and no position is live by those
  passed : (xs all left t : List Atom) (q : F) → NoneMet box all left → AtomsFit (length box) left → Yields atoms_first left xs t → FoldsTo (λ p x r. Called g p (x, tt) None r) f xs q
      → (q ≡ f) × NoneMet box all t × AtomsFit (length box) t
  passed [] all left t q none fit y c = (sym c, subst (NoneMet box all) y none, subst (AtomsFit (length box)) y fit)
  passed (x ∷ xs) all left t q none fit y c =
      let a = answers x None c.0 c.1 in
      passed xs all y.0 t q (none_met-passes none y.1 refl refl (nothing_shared refl a.1)) (fit_next fit y.1).1 y.2 (subst (λ (k : F). FoldsTo (λ p x r. Called g p (x, tt) None r) k xs q) a.0 c.2)

  -- the answer at which the calls stopped is of the first live position
  found_met : (all u : List Atom) (met : Met) → AtomsFit (length box) all → FindsMapped atoms_first g all f (Some met) u → FirstMet box all (Some met) u
  found_met all u met fit calls = ends calls.1 (passed calls.0 all all calls.3.0 calls.2 (record { same = λ q. refl }) fit calls.3.1 calls.4) calls.3.2 calls.5
    where
      ends : (o : Option Atom) {t : List Atom} {f' : F} → (f' ≡ f) × NoneMet box all t × AtomsFit (length box) t → atoms_first t o u → MatchOption o (Some met ≡ None) (λ x. (h : F) × Called g f' (x, tt) (Some met) h)
          → FirstMet box all (Some met) u
      ends None m next c = absurd (true≢false (ap is_some c))
      ends (Some x) m next c =
          let a = (answers x (Some met) c.0 (subst (λ (k : F). Called g k (x, tt) (Some met) c.0) m.0 c.1)).1 in
          let fits = fit_next m.2 next in
          (subst (λ (p : ℕ). MetOne box all u p met.kept) (sym a.0) (met_first m.1 next refl a.1 fits.0.0 (something_shared refl a.2)), fits.1)

  -- where all were answered with `None` none is live
  found_none : (all u : List Atom) → SomeRun atoms_first all (λ p. (p.whole ≡ true) × AllItemsGive p g f None) → FirstMet box all None u
  unfolding YieldsRun
  found_none all u runs =
      let p = runs.0 in
      let gives = runs.2.1 (λ a r q k. (answers a.0 r q k).0) in
      all_passed box p.items all p.gave.0.0 (subst (λ (from : List Atom). Yields atoms_first from p.items p.gave.0.0) runs.1 p.gave.0.1) (p.gave.0.2 runs.2.0).1.0
      (λ k. told (slice_get p.items k) (subst (λ (o : Option Atom). IfSome o (λ x. Called g f (x, tt) None f)) (p.gave.1 k) (gives k)))
    where
      told : (o : Option Atom) → IfSome o (λ x. Called g f (x, tt) None f) → IfSome o (λ x. AnswersAt box x None)
      told None k = k
      told (Some x) k = (answers x None f k).1

  -- the first live position, or that none is
  pub first_found : (all u : List Atom) (r : Option Met) (Found : Run atoms_first → Met → Type 0) → AtomsFit (length box) all → FindsMapped atoms_first g all f r u
      → SomeRun atoms_first all (λ p. MatchOption r ((p.whole ≡ true) × AllItemsGive p g f None) (Found p)) → FirstMet box all r u
  first_found all u None Found fit calls runs = found_none all u runs
  first_found all u (Some met) Found fit calls runs = found_met all u met fit calls
