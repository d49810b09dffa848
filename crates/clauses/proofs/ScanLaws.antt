-- Laws of the scan over a clause's atoms that a look is: what it has met of the atoms that it passed, and what the look leaves where the scan ends. Assumes nothing.
use mathlib.Core.Path.{◌≡◌, refl, sym, ap, ◌∙◌, subst}
use mathlib.Core.Bool.{Bool, true, false, true≢false}
use mathlib.Core.List.{List, [], ◌∷◌}
use Prim.Native.Nat.{ℕ, ◌-◌, ◌≤◌}
use native.Mathlib.Decide.{ℕ_discrete, dec_le}
use native.Mathlib.Omega.{arith}
use lib.Dec.{T, not_T}
use lib.ListN.{length, get_or-eq_default}
use Rattle.sets.specs.Sets.{union, common, is_empty}
use Rattle.sets.proofs.Sameness.{empty_test}
use Rattle.sets.proofs.Unions.{union_empty, empty-union, union_onto, common-union, common_empty, empty-common, left_empty}
use Rattle.lists.proofs.TestLaws.{true_test}
use Rattle.rules.specs.declared.field.Atom.{Atom}
use Rattle.rules.specs.Each.{atoms_in}
use Rattle.steps.specs.Boxes.{room_at, with_room}
use Rattle.steps.specs.Shrinking.{dead, alive, united, is_live, cut, look_clause}
use Rattle.steps.proofs.Looks.LiveLaws.{live-not_empty}
use Rattle.steps.proofs.Looks.ClauseLaws.{LiveIn, ClauseLook, none_live, one_live, more_live, clause_look}
use Rattle.rooms.specs.Held.{Held, with_box}
use Rattle.rooms.specs.Looks.{Leaves}
use Rattle.rooms.proofs.LookLaws.{leaves-dead, leaves-box, leaves_same}
use Rattle.clauses.specs.Promise.{LooksAtoms}
use Rattle.clauses.specs.Scans.{shared_in, Scanned, MetOne, Another}
use Rattle.clauses.proofs.UnitedLaws.{united-here, united_elsewhere}

-- ---- what a position's room shares with its sets

module _ (box : List ℕ) (a : Atom) (more : List Atom) where
  -- an atom adds what its own position's room shares with its set
  pub shared-here : shared_in box (a ∷ more) a.position ≡ union (common (room_at box a.position) a.set) (shared_in box more a.position)
  shared-here = ap (common (room_at box a.position)) (united-here a more a.position refl) ∙ common-union (room_at box a.position) a.set (united a.position more)

  -- and nothing at another position
  pub shared_elsewhere : (q : ℕ) → (a.position ≡ q → ⊥) → shared_in box (a ∷ more) q ≡ shared_in box more q
  shared_elsewhere q ne = ap (common (room_at box q)) (united_elsewhere a more q ne)

  -- nothing at all where its set shares nothing with the room
  pub shared_passed : common (room_at box a.position) a.set ≡ 0 → (q : ℕ) → shared_in box (a ∷ more) q ≡ shared_in box more q
  shared_passed none q = go (ℕ_discrete a.position q)
    where
      go : Dec (a.position ≡ q) → shared_in box (a ∷ more) q ≡ shared_in box more q
      go (yes e) = subst (λ (p : ℕ). shared_in box (a ∷ more) p ≡ shared_in box more p) e (shared-here ∙ ap (λ (m : ℕ). union m (shared_in box more a.position)) none ∙ empty-union (shared_in box more a.position))
      go (no ne) = shared_elsewhere q ne

-- no room shares anything with the sets of no atom
pub shared_none : (box : List ℕ) (q : ℕ) → shared_in box [] q ≡ 0
unfolding united
shared_none box q = common_empty (room_at box q)

-- a position whose room shares a value with its sets is live
shared_live : (box : List ℕ) (atoms : List Atom) (q : ℕ) → 1 ≤ q → (shared_in box atoms q ≡ 0 → ⊥) → LiveIn atoms box q
unfolding room_at is_live
shared_live box atoms q low shares = (low, there (dec_le q (length box)), not_T (is_empty (shared_in box atoms q)) λ t. shares ((empty_test (shared_in box atoms q)).0 t))
  where
    there : Dec (q ≤ length box) → q ≤ length box
    there (yes h) = h
    there (no h) =
        let past : length box ≤ q - 1 = omega arith in
        absurd (shares (ap (λ (room : ℕ). common room (united q atoms)) (get_or-eq_default box 0 past) ∙ empty-common (united q atoms)))

-- ---- the test whether a room shares something with a set

module _ {m : ℕ} {b : Bool} (tested : b ≡ is_empty m) where
  -- it says that the two share nothing
  pub nothing_shared : b ≡ true → m ≡ 0
  nothing_shared e = (empty_test m).0 (true_test (is_empty m) (sym tested ∙ e))

  -- or that they share a value
  pub something_shared : b ≡ false → m ≡ 0 → ⊥
  something_shared e none = subst T (sym tested ∙ e) ((empty_test m).1 none)

-- ---- the scan for the first live position

-- the atoms that are left are live where all are
pub record NoneMet (box : List ℕ) (all left : List Atom) : Type 0 where
  pub same : (q : ℕ) → shared_in box all q ≡ shared_in box left q

module _ {box : List ℕ} {all left : List Atom} (none_met : NoneMet box all left) where
  -- at the end none is
  pub none_met-ends : left ≡ [] → (q : ℕ) → shared_in box all q ≡ 0
  none_met-ends end q = none_met.same q ∙ ap (λ (atoms : List Atom). shared_in box atoms q) end ∙ shared_none box q

  module _ {a : Atom} {more : List Atom} (next : left ≡ a ∷ more) {room shared : ℕ} (there : room ≡ room_at box a.position) (meets : shared ≡ common room a.set) where
    first_shares : shared ≡ common (room_at box a.position) a.set
    first_shares = meets ∙ ap (λ (m : ℕ). common m a.set) there

    on : (q : ℕ) → shared_in box all q ≡ shared_in box (a ∷ more) q
    on q = none_met.same q ∙ ap (λ (atoms : List Atom). shared_in box atoms q) next

    -- an atom whose set shares nothing with its room is passed over
    pub none_met-passes : shared ≡ 0 → NoneMet box all more
    none_met-passes none = record { same = λ q. on q ∙ shared_passed box a more (sym first_shares ∙ none) q }

    -- the first one that does shows a live position
    pub met_first : 1 ≤ a.position → (shared ≡ 0 → ⊥) → MetOne box all more a.position shared
    met_first low some = record {
      low = low;
      live = some;
      scanned = record {
        others = λ q ne. on q ∙ shared_elsewhere box a more q (λ e. ne (sym e));
        here = empty-union (shared_in box all a.position) ∙ on a.position ∙ shared-here box a more ∙ ap (λ (m : ℕ). union m (shared_in box more a.position)) (sym first_shares);
      };
    }

-- ---- the scan of the atoms behind

-- at the start all are left
pub scan-starts : (box : List ℕ) (all : List Atom) (position kept : ℕ) → Scanned box all all position kept kept
scan-starts box all position kept = record { others = λ q ne. refl; here = refl }

module _ {box : List ℕ} {all left : List Atom} {position before now : ℕ} (scanned : Scanned box all left position before now) where
  -- the same scan by another name for what is kept
  pub scan_as : {kept : ℕ} → kept ≡ now → Scanned box all left position before kept
  scan_as e = subst (λ (m : ℕ). Scanned box all left position before m) (sym e) scanned

  -- at the end none is left
  pub scan_ends : left ≡ [] → Scanned box all [] position before now
  scan_ends end = subst (λ (atoms : List Atom). Scanned box all atoms position before now) end scanned

  module _ {a : Atom} {more : List Atom} (next : left ≡ a ∷ more) {room shared : ℕ} (there : room ≡ room_at box a.position) (meets : shared ≡ common room a.set) where
    shares : shared ≡ common (room_at box a.position) a.set
    shares = meets ∙ ap (λ (m : ℕ). common m a.set) there

    at-next : Scanned box all (a ∷ more) position before now
    at-next = subst (λ (atoms : List Atom). Scanned box all atoms position before now) next scanned

    -- an atom whose set shares nothing with its room is passed over
    pub scan_passes : shared ≡ 0 → Scanned box all more position before now
    scan_passes none =
        let passed = shared_passed box a more (sym shares ∙ none) in
        record { others = λ q ne. at-next.others q ne ∙ passed q; here = at-next.here ∙ ap (union now) (passed position) }

    -- one of the same position adds to what is kept
    pub scan-meets : a.position ≡ position → Scanned box all more position before (union now shared)
    scan-meets same = record {
      others = λ q ne. at-next.others q ne ∙ shared_elsewhere box a more q (λ e. ne (sym e ∙ same));
      here =
          at-next.here
          ∙ subst (λ (p : ℕ). union now (shared_in box (a ∷ more) p) ≡ union (union now shared) (shared_in box more p)) same
          (ap (union now) (shared-here box a more ∙ ap (λ (m : ℕ). union m (shared_in box more a.position)) (sym shares)) ∙ union_onto now shared (shared_in box more a.position));
    }

    -- one of another position shows that live
    pub scan_another : 1 ≤ a.position → (a.position ≡ position → ⊥) → (shared ≡ 0 → ⊥) → Another box all position
    scan_another low other some = record {
      other = a.position;
      low = low;
      differs = other;
      live = λ none. some (shares ∙ left_empty _ _ (sym (at-next.others a.position other ∙ shared-here box a more) ∙ none));
    }

-- ---- the scan of all atoms in one, from the first live position on

module _ {box : List ℕ} {all left : List Atom} {position kept : ℕ} (one : MetOne box all left position kept) {a : Atom} {more : List Atom} (next : left ≡ a ∷ more)
    {room shared : ℕ} (there : room ≡ room_at box a.position) (meets : shared ≡ common room a.set) where
  -- an atom whose set shares nothing with its room is passed over
  pub met_passes : shared ≡ 0 → MetOne box all more position kept
  met_passes none = record { low = one.low; live = one.live; scanned = scan_passes one.scanned next there meets none }

  -- one of the same position adds to what is kept
  pub met_again : a.position ≡ position → MetOne box all more position (union kept shared)
  met_again same = record { low = one.low; live = λ none. one.live (left_empty kept shared none); scanned = scan-meets one.scanned next there meets same }

-- ---- what a look at the clause finds

-- where no position is live it is dead
pub scan-dead : (place : ℕ) (all : List Atom) (box : List ℕ) → ((q : ℕ) → shared_in box all q ≡ 0) → look_clause place all box ≡ dead place
scan-dead place all box none = go (clause_look place all box)
  where
    never : (q : ℕ) → LiveIn all box q → ⊥
    never q there = live-not_empty all q (room_at box q) there.2 (none q)

    go : ClauseLook place all box → look_clause place all box ≡ dead place
    go (none_live dull e) = e
    go (one_live q there only e) = absurd (never q there)
    go (more_live q r there also l e) = absurd (never q there)

module _ {box : List ℕ} {all left : List Atom} {p kept : ℕ} (one : MetOne box all left p kept) where
  whole : shared_in box all p ≡ union kept (shared_in box left p)
  whole = sym (empty-union (shared_in box all p)) ∙ one.scanned.here

  live_one : LiveIn all box p
  live_one = shared_live box all p one.low (λ none. one.live (left_empty _ _ (sym whole ∙ none)))

  -- the live position is one of the box
  pub met-there : (1 ≤ p) × (p ≤ length box)
  met-there = (one.low, live_one.1)

  -- where another is live too nothing changes
  pub scan_several : (place : ℕ) → Another box left p → look_clause place all box ≡ alive box
  scan_several place another = go (clause_look place all box)
    where
      second : LiveIn all box another.other
      second = shared_live box all another.other another.low (λ none. another.live (sym (one.scanned.others another.other another.differs) ∙ none))

      go : ClauseLook place all box → look_clause place all box ≡ alive box
      go (none_live dull e) = absurd (dull p live_one)
      go (one_live q there only e) = absurd (another.differs (only another.other second ∙ sym (only p live_one)))
      go (more_live q r there also l e) = e

  -- else its room is cut down to what was kept
  pub scan_cuts : (place : ℕ) {now : ℕ} → Scanned box left [] p kept now → look_clause place all box ≡ alive (with_room box p now)
  unfolding cut
  scan_cuts place {now} scanned = go (clause_look place all box)
    where
      kept_all : shared_in box all p ≡ now
      kept_all = whole ∙ scanned.here ∙ ap (union now) (shared_none box p) ∙ union_empty now

      only_one : (q : ℕ) → LiveIn all box q → q ≡ p
      only_one q there = by (ℕ_discrete q p)
        where
          by : Dec (q ≡ p) → q ≡ p
          by (yes e) = e
          by (no ne) = absurd (live-not_empty all q (room_at box q) there.2 (one.scanned.others q ne ∙ scanned.others q ne ∙ shared_none box q))

      go : ClauseLook place all box → look_clause place all box ≡ alive (with_room box p now)
      go (none_live dull e) = absurd (dull p live_one)
      go (one_live q there only e) = e ∙ ap (λ (r : ℕ). alive (cut all r box)) (only_one q there) ∙ ap (λ (m : ℕ). alive (with_room box p m)) kept_all
      go (more_live q r there also l e) = let first = only_one q there in let second = only_one r also in absurd (omega arith)

-- ---- what a look at the clause of a content leaves

module _ {before : Held} {content : List ℕ} {all : List Atom} (is : all ≡ atoms_in content) where
  -- where no position is live
  pub looks-dead : ((q : ℕ) → shared_in before.box all q ≡ 0) → LooksAtoms before content false before
  looks-dead none = record {
    leaves = subst (λ (atoms : List Atom). Leaves look_clause atoms before false before) is (leaves-dead look_clause all before (λ place. scan-dead place all before.box none));
    kept = λ f. refl;
  }

  module _ {left : List Atom} {position kept : ℕ} (one : MetOne before.box all left position kept) where
    -- where another is live beside the one
    pub looks_same : Another before.box left position → LooksAtoms before content true before
    looks_same another = record {
      leaves = subst (λ (atoms : List Atom). Leaves look_clause atoms before true before) is (leaves_same look_clause all before (λ place. scan_several one place another));
      kept = λ f. refl;
    }

    -- where none is
    pub looks_cut : {now : ℕ} {after : Held} → Scanned before.box left [] position kept now → after ≡ with_box (with_room before.box position now) before
        → LooksAtoms before content true after
    looks_cut {now} {after} scanned e = record {
      leaves = subst (λ (atoms : List Atom). Leaves look_clause atoms before true after) is (leaves-box look_clause all before (λ place. scan_cuts one place scanned) e);
      kept = λ f. absurd (true≢false f);
    }
