-- Laws of looks at an equality: at a clause of one atom, at one of several positions, at those of the values that are left, and at all of them. Assumes nothing.
use mathlib.Core.Path.{◌≡◌, refl, sym, ap, ◌∙◌, subst}
use mathlib.Core.Logic.{inl, ⊎_elim}
use mathlib.Core.Bool.{Bool, true, false}
use mathlib.Core.List.{List, [], ◌∷◌, map}
use Prim.Native.Nat.{ℕ, ◌+◌, ◌-◌, ◌^◌, ◌≤◌, ◌<◌}
use lib.Dec.{T}
use lib.ListN.{length, get_or, take, drop}
use Rattle.std.specs.Prelude.{Option, Some, None}
use Rattle.sets.specs.Sets.{union, common, is_empty, meets, values, smallest, others}
use Rattle.sets.proofs.Members.{member_union}
use Rattle.sets.proofs.Sameness.{member_extensional, empty_test}
use Rattle.sets.proofs.Smallest.{values-others, values_of_empty}
use Rattle.lists.proofs.TestLaws.{true_test, fails_false, not-not}
use Rattle.lists.proofs.TakeDrop.{drop_next}
use Rattle.lists.proofs.ListLaws.{every_at-place}
use Rattle.rules.specs.declared.field.Atom.{Atom}
use Rattle.rules.specs.declared.field.Tag.TheVariants.{Equality}
use Rattle.rules.specs.Contents.{PositionsFit}
use Rattle.rules.specs.Reading.{set_at, rule_of}
use Rattle.rules.specs.Writing.{PositionFits}
use Rattle.rules.specs.Parts.{one_of, atom_in, each_inside, each_taken, equality_parts, parts_of}
use Rattle.steps.specs.Boxes.{room_at, with_room}
use Rattle.steps.specs.Shrinking.{Look, dead, alive, look_clause, look_part, look_parts, look_rule}
use Rattle.rooms.specs.Held.{Held}
use Rattle.rooms.specs.Looks.{AfterLook, Leaves}
use Rattle.rooms.proofs.LookLaws.{leaves-dead}
use Rattle.clauses.specs.Scans.{MetOne}
use Rattle.clauses.proofs.ScanLaws.{NoneMet, none_met-ends, none_met-passes, met_first, scan-starts, scan_ends, scan_another, met_passes, met_again, scan-dead, met-there, scan_several, scan_cuts}
use Rattle.boxes.proofs.LooksInTurn.{LeftToLook, left_all, append-in_turn}

-- the position at an index, and those behind it
pub position_next : (ps : List ℕ) (i p : ℕ) → i < length ps → p ≡ get_or ps i 0 → drop i ps ≡ p ∷ drop (i + 1) ps
position_next ps i p there e = drop_next ps i there ∙ ap (λ (q : ℕ). q ∷ drop (i + 1) ps) (sym e)

-- it is a position of a room
pub position_fits : (v : ℕ) (ps : List ℕ) → PositionsFit v ps → (i p : ℕ) → i < length ps → p ≡ get_or ps i 0 → (1 ≤ p) × (p ≤ v)
position_fits v ps fit i p there e = let here = every_at-place (PositionFits v) ps i fit there in subst (PositionFits v) (sym e) here

-- the test whether two sets meet says that they share a value
pub test-meets : {r : Bool} (a b : ℕ) → r ≡ meets a b → r ≡ true → common a b ≡ 0 → ⊥
test-meets a b e t none = subst T ((fails_false (is_empty (common a b))).0 (true_test (meets a b) (sym e ∙ t))) ((empty_test (common a b)).1 none)

-- or that they share nothing
pub test_apart : {r : Bool} (a b : ℕ) → r ≡ meets a b → r ≡ false → common a b ≡ 0
test_apart a b e f = (empty_test (common a b)).0 ((not-not (is_empty (common a b))).0 ((fails_false (meets a b)).1 (sym e ∙ f)))

-- a set united with itself is itself
union_same : (m : ℕ) → union m m ≡ m
union_same m = member_extensional (union m m) m λ x. (λ t. ⊎_elim (λ h. h) (λ h. h) ((member_union x m m).0 t), λ t. (member_union x m m).1 (inl t))

-- ---- the clause "the position is in the set"

-- at the start of a scan none is met
pub starts : (box : List ℕ) (all : List Atom) → NoneMet box all all
starts box all = record { same = λ q. refl }

module _ (m p : ℕ) (box : List ℕ) where
  -- it is dead where its room has no value of the set
  pub single-dead : common (room_at box p) m ≡ 0 → (place : ℕ) → look_clause place (atom_in m p ∷ []) box ≡ dead place
  unfolding atom_in
  single-dead none place = scan-dead place (atom_in m p ∷ []) box (none_met-ends (none_met-passes (starts box (atom_in m p ∷ [])) refl refl refl none) refl)

  -- else its room is cut down to those
  pub single-cut : 1 ≤ p → (common (room_at box p) m ≡ 0 → ⊥) → (place : ℕ) → look_clause place (atom_in m p ∷ []) box ≡ alive (with_room box p (common (room_at box p) m))
  unfolding atom_in
  single-cut low some place = scan_cuts (met_first (starts box (atom_in m p ∷ [])) refl refl refl low some) place (scan-starts box [] p (common (room_at box p) m))

-- ---- the clause "one of the positions is in the set"

-- the atoms of the positions
abbrev any_in : ℕ → List ℕ → List Atom
any_in m ps = map (atom_in m) ps

-- of all the positions these are left, and the scan has met this one whose room has values of the set and no other, or none
abbrev pub MetSoFar : ℕ → List ℕ → List ℕ → List ℕ → Option ℕ → Type 0
MetSoFar m all left box None = NoneMet box (any_in m all) (any_in m left)
MetSoFar m all left box (Some p) = MetOne box (any_in m all) (any_in m left) p (common (room_at box p) m)

module _ (m : ℕ) (all : List ℕ) (box : List ℕ) {left : List ℕ} {p : ℕ} {more : List ℕ} (next : left ≡ p ∷ more) where
  there : any_in m left ≡ atom_in m p ∷ any_in m more
  there = ap (any_in m) next

  -- a position whose room has no value of the set is passed over
  pub met-passes : (live : Option ℕ) → MetSoFar m all left box live → common (room_at box p) m ≡ 0 → MetSoFar m all more box live
  unfolding atom_in
  met-passes None met none = none_met-passes met there refl refl none
  met-passes (Some q) met none = met_passes met there refl refl none

  module _ (low : 1 ≤ p) (some : common (room_at box p) m ≡ 0 → ⊥) {live : Option ℕ} (met : MetSoFar m all left box live) where
    -- the first one whose room has some is the live one
    pub met-first : live ≡ None → {now : Option ℕ} → now ≡ Some p → MetSoFar m all more box now
    unfolding atom_in
    met-first none here =
        let nothing : NoneMet box (any_in m all) (any_in m left) = subst (MetSoFar m all left box) none met in
        subst (MetSoFar m all more box) (sym here) (met_first nothing there refl refl low some)

    module _ {q : ℕ} (is : live ≡ Some q) where
      one : MetOne box (any_in m all) (any_in m left) q (common (room_at box q) m)
      one = subst (MetSoFar m all left box) is met

      -- the same again stays it
      pub met-again : q ≡ p → {now : Option ℕ} → now ≡ Some p → MetSoFar m all more box now
      unfolding atom_in
      met-again e here =
          let same = subst (λ (k : ℕ). MetOne box (any_in m all) (any_in m left) k (common (room_at box k) m)) e one in
          let again = met_again same there refl refl refl in
          subst (MetSoFar m all more box) (sym here) (subst (λ (kept : ℕ). MetOne box (any_in m all) (any_in m more) p kept) (union_same (common (room_at box p) m)) again)

      -- another one makes several, and nothing changes
      pub met_several : (q ≡ p → ⊥) → (place : ℕ) → look_clause place (any_in m all) box ≡ alive box
      unfolding atom_in
      met_several other place =
          scan_several one place (scan_another (scan-starts box (any_in m left) q (common (room_at box q) m)) there refl refl low (λ e. other (sym e)) some)

-- behind the last position
module _ (m : ℕ) (all : List ℕ) (held : Held) {left : List ℕ} (end : left ≡ []) where
  done : any_in m left ≡ []
  done = ap (any_in m) end

  -- where none was met the clause is dead
  pub met-dead : {live : Option ℕ} → MetSoFar m all left held.box live → live ≡ None → (after : Held) → Leaves look_part (one_of (any_in m all)) held false after
  met-dead met none after =
      let nothing : NoneMet held.box (any_in m all) (any_in m left) = subst (MetSoFar m all left held.box) none met in
      leaves-dead look_part (one_of (any_in m all)) held (λ place. scan-dead place (any_in m all) held.box (none_met-ends nothing done))

  module _ (p : ℕ) {live : Option ℕ} (met : MetSoFar m all left held.box live) (is : live ≡ Some p) where
    only : MetOne held.box (any_in m all) (any_in m left) p (common (room_at held.box p) m)
    only = subst (MetSoFar m all left held.box) is met

    -- else the live position's room is one of the box
    pub met_there : (1 ≤ p) × (p ≤ length held.box)
    met_there = met-there only

    -- and a look at the clause of that position alone leaves what one at the whole clause does
    pub met-only : {r : Bool} {after : Held} → Leaves look_part (one_of (atom_in m p ∷ [])) held r after → Leaves look_part (one_of (any_in m all)) held r after
    met-only {r} {after} found = record {
      by = λ place.
          subst (λ (l : Look). AfterLook (λ _. false) true l r after held.rest)
          (single-cut m p held.box only.low only.live place ∙ sym (scan_cuts only place (scan_ends (scan-starts held.box (any_in m left) p (common (room_at held.box p) m)) done)))
          (found.by place);
    }

-- ---- the values that are left

-- the values of a set that is not empty: the smallest, then the others
pub next_value : {A : Type 0} (f : ℕ → A) (m rest : ℕ) → m < 2 ^ 32 → (m ≡ 0 → ⊥) → rest ≡ others m
    → map f (values m) ≡ f (smallest m) ∷ map f (values rest)
next_value f m rest h ne e = ap (map f) (values-others m h ne) ∙ ap (λ (k : ℕ). f (smallest m) ∷ map f (values k)) (sym e)

-- the empty set has no value
pub no_value : {A : Type 0} (f : ℕ → A) (m : ℕ) → m ≡ 0 → map f (values m) ≡ []
no_value f m e = ap (λ (k : ℕ). map f (values k)) e ∙ ap (map f) values_of_empty

-- ---- an equality

-- its positions
abbrev pub positions_in : List ℕ → List ℕ
positions_in content = take (length content - 4) (drop 4 content)

-- a look at it: at the clauses of the positions, then at those of the values
pub equality_left : (m : ℕ) (content : List ℕ) (held : Held) → m ≡ set_at content 0
    → LeftToLook look_parts look_rule (rule_of Equality (length content) content) (each_inside m (positions_in content) ∷ each_taken m (positions_in content) ∷ []) held held
unfolding parts_of rule_of equality_parts
equality_left m content held here =
    left_all
    (λ place box.
    ap (λ (k : ℕ). look_parts place (equality_parts k (positions_in content)) box) (sym here)
    ∙ append-in_turn (look_part place) (each_inside m (positions_in content)) (each_taken m (positions_in content)) box)
    held
