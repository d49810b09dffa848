-- Laws of the lowest live position of a clause: its atoms one by one, and what it is where the clause is settled and where it is not. Assumes nothing.
use mathlib.Core.Path.{◌≡◌, refl, sym, ap, ap₂, ◌∙◌, subst}
use mathlib.Core.Logic.Iff
use mathlib.Core.Logic.{◌↔◌, ◌⊎◌, inl, inr, ⊎_elim}
use mathlib.Core.Bool.{Bool, true, false, not, ◌&&◌, ◌||◌, true≢false}
use mathlib.Core.List.Memᴰ
use mathlib.Core.List.{List, [], ◌∷◌, Memᴰ}
use Prim.Native.Nat.{ℕ, ◌+◌, ◌-◌, ◌^◌, ◌≤◌, ◌<◌}
use native.Mathlib.Decide.{ℕ_discrete}
use native.Mathlib.Omega.{arith}
use lib.Dec.{T, eqb, T_not, not_T}
use lib.ListN.{length, get_or}
use Rattle.lists.specs.Lowest.{lowest}
use Rattle.lists.proofs.LowestLaws.{lowest-most, lowest-none, lowest_only, lowest_same, lowest_either, lowest_before}
use Rattle.lists.proofs.TestLaws.{test_true, true_test, both_hold, either_holds, eq_holds, fails_false}
use Rattle.lists.proofs.ListLaws.{either_same}
use Rattle.sets.specs.Sets.{union, common, is_empty, meets, inside, count}
use Rattle.sets.proofs.Sameness.{empty_test}
use Rattle.sets.proofs.Unions.{union_empty, common-union, common_empty, left_empty, right_empty}
use Rattle.rules.specs.declared.field.Atom.{Atom}
use Rattle.rules.specs.declared.field.Tag.TheVariants.{Clause, Starting}
use Rattle.rules.specs.Contents.{AtomsFit}
use Rattle.rules.specs.Rules.{clause, starting}
use Rattle.rules.specs.Each.{atoms_in}
use Rattle.rules.specs.Parts.{parts_of}
use Rattle.rules.specs.Reading.{atom_of, rule_of}
use Rattle.steps.specs.Boxes.{room_at}
use Rattle.steps.specs.Shrinking.{unite_if, united, is_live, settled_by, settled_clause, some_of}
use Rattle.steps.proofs.Boxes.BoxSizes.{wide-and}
use Rattle.steps.proofs.Looks.ClauseLaws.{live_two}
use Rattle.lowest.specs.LowestBy.{splits_by, lowest_by}

-- whether the position of an index is live in a clause
abbrev pub live_at : List ℕ → List Atom → ℕ → Bool
live_at box atoms i = is_live atoms (i + 1) (room_at box (i + 1))

-- ---- the atoms of a clause one by one

-- two sets meet exactly if what they share is not empty
meets-shared : (a b : ℕ) → T (meets a b) ↔ (common a b ≡ 0 → ⊥)
meets-shared a b = (λ t e. T_not (is_empty (common a b)) t ((empty_test (common a b)).1 e), λ ne. not_T (is_empty (common a b)) (λ t. ne ((empty_test (common a b)).0 t)))

-- a set meets a union exactly if it meets one of the two
meets-union : (room a b : ℕ) → T (meets room (union a b)) ↔ (T (meets room a) ⊎ T (meets room b))
meets-union room a b = (
  λ t. go ((meets-shared room (union a b)).0 t) (ℕ_discrete (common room a) 0),
  λ s. (meets-shared room (union a b)).1 (λ e. ⊎_elim (λ u. (meets-shared room a).0 u (left_empty _ _ (sym (common-union room a b) ∙ e)))
      (λ u. (meets-shared room b).0 u (right_empty (common room a) _ (sym (common-union room a b) ∙ e))) s),
)
  where
    go : (common room (union a b) ≡ 0 → ⊥) → Dec (common room a ≡ 0) → T (meets room a) ⊎ T (meets room b)
    go ne (no some) = inl ((meets-shared room a).1 some)
    go ne (yes e) = inr ((meets-shared room b).1 (λ f. ne (common-union room a b ∙ ap₂ union e f ∙ union_empty 0)))

-- whether the position of an index is live by one atom
abbrev pub lives_by : List ℕ → Atom → ℕ → Bool
lives_by box a i = eqb a.position (i + 1) && meets (room_at box a.position) a.set

-- it is so exactly if the atom is on the position, and its room meets the set
lives : (box : List ℕ) (a : Atom) (i : ℕ) → T (lives_by box a i) ↔ ((a.position ≡ i + 1) × T (meets (room_at box a.position) a.set))
lives box a i = Iff.trans (both_hold (eqb a.position (i + 1)) (meets (room_at box a.position) a.set)) (Iff.and (eq_holds a.position (i + 1)) Iff.rfl)

-- in the clause with an atom in front it is live by that atom or by the others
live-first : (box : List ℕ) (a : Atom) (more : List Atom) (i : ℕ) → T (live_at box (a ∷ more) i) ↔ T (lives_by box a i || live_at box more i)
unfolding is_live united unite_if
live-first box a more i = Iff.trans (go (eqb a.position (i + 1)) refl) (Iff.symm (either_holds (lives_by box a i) (live_at box more i)))
  where
    room : ℕ
    room = room_at box (i + 1)

    go : (b : Bool) → eqb a.position (i + 1) ≡ b → T (meets room (unite_if b a.set (united (i + 1) more))) ↔ (T (lives_by box a i) ⊎ T (live_at box more i))
    go true e =
        let same : a.position ≡ i + 1 = (eq_holds a.position (i + 1)).0 (subst T (sym e) tt) in
        let own : T (lives_by box a i) ↔ T (meets room a.set) =
        Iff.trans (lives box a i) (λ h. subst (λ (p : ℕ). T (meets (room_at box p) a.set)) same h.1, λ t. (same, subst (λ (p : ℕ). T (meets (room_at box p) a.set)) (sym same) t)) in
        Iff.trans (meets-union room a.set (united (i + 1) more)) (either_same (Iff.symm own) Iff.rfl)
    go false e = (inr, ⊎_elim (λ t. absurd (subst T e ((both_hold (eqb a.position (i + 1)) (meets (room_at box a.position) a.set)).0 t).0)) (λ t. t))

-- in a clause without an atom no position is live
live-none : (box : List ℕ) (i : ℕ) → T (live_at box [] i) → ⊥
unfolding is_live united
live-none box i t = (meets-shared (room_at box (i + 1)) 0).0 t (common_empty (room_at box (i + 1)))

-- a live position is that of some atom
live-named : (box : List ℕ) (atoms : List Atom) (i : ℕ) → T (live_at box atoms i) → (a : Atom) × Memᴰ a atoms × (a.position ≡ i + 1)
live-named box [] i t = absurd (live-none box i t)
live-named box (a ∷ more) i t =
    ⊎_elim (λ u. (a, Memᴰ.head refl, ((lives box a i).0 u).0)) (λ u. let found = live-named box more i u in (found.0, Memᴰ.tail found.1, found.2))
    ((either_holds (lives_by box a i) (live_at box more i)).0 ((live-first box a more i).0 t))

-- Of all atoms of a clause some are left: by those the lowest live position below `low` is that of the clause below `best`. The rooms of the others' positions were seen to be masks.
pub record AtomsLeft (all left : List Atom) (box : List ℕ) (best low : ℕ) : Type 0 where
  pub fit : AtomsFit (length box) left
  pub among : (a : Atom) → Memᴰ a left → Memᴰ a all
  pub masks : (a : Atom) → Memᴰ a all → Memᴰ a left ⊎ (room_at box a.position < 2 ^ 32)
  pub decide : lowest (live_at box all) best ≡ lowest (live_at box left) low

-- at the start all are left
pub atoms_left_start : (all : List Atom) (box : List ℕ) (best : ℕ) → AtomsFit (length box) all → AtomsLeft all all box best best
atoms_left_start all box best fit = record { fit = fit; among = λ a t. t; masks = λ a t. inl t; decide = refl }

module _ {all left : List Atom} {box : List ℕ} {best low : ℕ} (going : AtomsLeft all left box best low) {a : Atom} {more : List Atom} (next : left ≡ a ∷ more) where
  fit_next : AtomsFit (length box) (a ∷ more)
  fit_next = subst (AtomsFit (length box)) next going.fit

  -- the atom is on a position from 1 to v
  pub atom_left-fits : (1 ≤ a.position) × (a.position ≤ length box)
  atom_left-fits = fit_next.0

  -- and is one of the clause
  pub atom_left-listed : Memᴰ a all
  atom_left-listed = going.among a (subst (λ (bs : List Atom). Memᴰ a bs) (sym next) (Memᴰ.head refl))

  -- the lowest live position by the atoms that are left is that by those behind the first, below what this makes of it
  on : room_at box a.position < 2 ^ 32 → {low' : ℕ} → lowest (lives_by box a) low ≡ low' → AtomsLeft all more box best low'
  on mask e = record {
    fit = fit_next.1;
    among = λ b t. going.among b (subst (λ (bs : List Atom). Memᴰ b bs) (sym next) (Memᴰ.tail t));
    masks = λ b t. ⊎_elim seen inr (going.masks b t);
    decide = going.decide ∙ ap (λ (bs : List Atom). lowest (live_at box bs) low) next
        ∙ lowest_same (live_at box (a ∷ more)) (λ j. lives_by box a j || live_at box more j) low (λ j h. live-first box a more j)
        ∙ lowest_either (lives_by box a) (live_at box more) low ∙ ap (lowest (live_at box more)) e;
  }
    where
      seen : {b : Atom} → Memᴰ b left → Memᴰ b more ⊎ (room_at box b.position < 2 ^ 32)
      seen {b} t =
          ⊎_elim (λ same. inr (subst (λ (c : Atom). room_at box c.position < 2 ^ 32) (sym same) mask)) inl (Memᴰ.cases_cons (subst (λ (bs : List Atom). Memᴰ b bs) next t))

  -- where its position is lower and its room meets the set, it is that position
  pub atoms_left_lower : room_at box a.position < 2 ^ 32 → a.position - 1 < low → T (meets (room_at box a.position) a.set) → AtomsLeft all more box best (a.position - 1)
  atoms_left_lower mask l t =
      let up : a.position ≡ a.position - 1 + 1 = omega (arith, atom_left-fits) in
      on mask (lowest_only (lives_by box a) low (a.position - 1) l ((lives box a (a.position - 1)).1 (up, t)) (λ j u. omega (arith, ((lives box a j).0 u).0)))

  -- else the atom changes nothing
  pub atoms_left_on : room_at box a.position < 2 ^ 32 → (low ≤ a.position - 1) ⊎ (T (meets (room_at box a.position) a.set) → ⊥) → AtomsLeft all more box best low
  atoms_left_on mask h =
      on mask (lowest-none (lives_by box a) low (λ j l t. let own = (lives box a j).0 t in ⊎_elim (λ m. omega (arith, own.0)) (λ none. none own.1) h))

-- at the end it is the lowest met
atoms_left_end : {all : List Atom} {box : List ℕ} {best low : ℕ} → AtomsLeft all [] box best low → lowest (live_at box all) best ≡ low
atoms_left_end {box = box} {low = low} going = going.decide ∙ lowest-none (live_at box []) low (λ j h t. live-none box j t)

-- ---- a clause

module _ (box : List ℕ) (atoms : List Atom) (best : ℕ) where
  -- an index may be split because of a clause: its room has two or more values, its position is live, and the clause is not settled
  by-clause : (i : ℕ) → T (splits_by box (clause atoms) i) ↔ ((2 ≤ count (get_or box i 0)) × T (live_at box atoms i) × (settled_clause box atoms ≡ false))
  unfolding parts_of some_of
  by-clause i = (
    λ t. let first = (wide-and box i (live && left || false)).0 t in
        let both = (both_hold live left).0 (⊎_elim (λ u. u) absurd ((either_holds (live && left) false).0 first.1)) in
        (first.0, both.0, (fails_false (settled_clause box atoms)).0 both.1),
    λ h. (wide-and box i (live && left || false)).1 (h.0, (either_holds (live && left) false).1 (inl ((both_hold live left).1 (h.1, (fails_false (settled_clause box atoms)).1 h.2)))),
  )
    where
      live : Bool
      live = live_at box atoms i

      left : Bool
      left = not (settled_clause box atoms)

  -- a settled clause leaves nothing to split
  clause-settled-none : settled_clause box atoms ≡ true → lowest_by box (clause atoms) best ≡ best
  clause-settled-none e = lowest-none (splits_by box (clause atoms)) best (λ i h t. true≢false (sym e ∙ ((by-clause i).0 t).2))

  -- nor does one in which no position below the bound is live
  clause-none_live : lowest (live_at box atoms) best ≡ best → lowest_by box (clause atoms) best ≡ best
  clause-none_live e = lowest-none (splits_by box (clause atoms)) best (λ i h t. lowest_before (live_at box atoms) best i (omega arith) ((by-clause i).0 t).1)

  -- of one that is not settled it is the lowest live position
  clause_open_live : ((a : Atom) → Memᴰ a atoms → room_at box a.position < 2 ^ 32) → settled_clause box atoms ≡ false → lowest_by box (clause atoms) best ≡ lowest (live_at box atoms) best
  unfolding room_at
  clause_open_live masks u = lowest_same (splits_by box (clause atoms)) (live_at box atoms) best (λ i h. (λ t. ((by-clause i).0 t).1, back i))
    where
      back : (i : ℕ) → T (live_at box atoms i) → T (splits_by box (clause atoms) i)
      back i t =
          let same : i + 1 - 1 ≡ i = omega arith in
          let named = live-named box atoms i t in
          let two = live_two atoms box (i + 1) (subst (λ (p : ℕ). room_at box p < 2 ^ 32) named.2 (masks named.0 named.1)) u t in
          (by-clause i).1 (subst (λ (j : ℕ). 2 ≤ count (get_or box j 0)) same two, t, u)

module _ (content : List ℕ) {left : List Atom} {box : List ℕ} {best low : ℕ} (going : AtomsLeft (atoms_in content) left box best low) where
  -- a clause that is settled leaves the best as it is
  pub clause_shut : settled_clause box (atoms_in content) ≡ true → best ≡ lowest_by box (rule_of Clause (length content) content) best
  unfolding rule_of
  clause_shut e = sym (clause-settled-none box (atoms_in content) best e)

  -- so does one in which no lower position is live
  pub clause_dull : left ≡ [] → best ≤ low → best ≡ lowest_by box (rule_of Clause (length content) content) best
  unfolding rule_of
  clause_dull none h =
      let done = atoms_left_end (subst (λ (bs : List Atom). AtomsLeft (atoms_in content) bs box best low) none going) in
      sym (clause-none_live box (atoms_in content) best (omega (arith, done, lowest-most (live_at box (atoms_in content)) best)))

  -- one that is not settled makes it the lowest that was met
  pub clause_open : left ≡ [] → settled_clause box (atoms_in content) ≡ false → low ≡ lowest_by box (rule_of Clause (length content) content) best
  unfolding rule_of
  clause_open none u =
      let done = subst (λ (bs : List Atom). AtomsLeft (atoms_in content) bs box best low) none going in
      sym (clause_open_live box (atoms_in content) best (λ a t. ⊎_elim (λ none. absurd (Memᴰ.not-nil none)) (λ mask. mask) (done.masks a t)) u ∙ atoms_left_end done)

-- ---- a starting set

-- the clause of one atom is settled where the room of its position lies inside the set
single_settled : (box : List ℕ) (a : Atom) → settled_clause box (a ∷ []) ≡ inside (room_at box a.position) a.set
unfolding settled_clause settled_by united unite_if
single_settled box a = alone (inside (room_at box a.position) (unite_if (eqb a.position a.position) a.set 0)) ∙ ap (inside (room_at box a.position)) set
  where
    alone : (b : Bool) → b || false ≡ b
    alone true = refl
    alone false = refl

    set : unite_if (eqb a.position a.position) a.set 0 ≡ a.set
    set = ap (λ (b : Bool). unite_if b a.set 0) (test_true (eqb a.position a.position) ((eq_holds a.position a.position).1 refl)) ∙ union_empty a.set

module _ (box content : List ℕ) (bound : ℕ) {a : Atom} (here : a ≡ atom_of content) where
  abbrev room : ℕ
  room = room_at box a.position

  -- what a starting set leaves is what the clause of its atom leaves
  as-clause : lowest_by box (clause (a ∷ [])) bound ≡ lowest_by box (rule_of Starting (length content) content) bound
  unfolding rule_of parts_of
  as-clause = ap (λ (b : Atom). lowest_by box (starting b) bound) here

  -- an index that may be split because of it is that of its position, whose room meets the set and does not lie inside it
  splits : (i : ℕ) → T (splits_by box (clause (a ∷ [])) i) → (a.position ≡ i + 1) × T (meets room a.set) × (inside room a.set ≡ false)
  splits i t =
      let found = (by-clause box (a ∷ []) bound i).0 t in
      let own = (lives box a i).0 (⊎_elim (λ u. u) (λ u. absurd (live-none box i u)) ((either_holds (lives_by box a i) (live_at box [] i)).0 ((live-first box a [] i).0 found.1))) in
      (own.0, own.1, sym (single_settled box a) ∙ found.2)

  nothing : ((i : ℕ) → i < bound → (a.position ≡ i + 1) × T (meets room a.set) × (inside room a.set ≡ false) → ⊥) → bound ≡ lowest_by box (rule_of Starting (length content) content) bound
  nothing none = sym (lowest-none (splits_by box (clause (a ∷ []))) bound (λ i l t. none i l (splits i t))) ∙ as-clause

  -- the bound, where its position is no lower
  pub start_higher : bound ≤ a.position - 1 → bound ≡ lowest_by box (rule_of Starting (length content) content) bound
  start_higher h = nothing (λ i l both. omega (arith, both.0))

  -- or its room does not meet the set
  pub start_apart : meets room a.set ≡ false → bound ≡ lowest_by box (rule_of Starting (length content) content) bound
  start_apart e = nothing (λ i l both. subst T e both.1)

  -- or lies inside it
  pub start_inside : inside room a.set ≡ true → bound ≡ lowest_by box (rule_of Starting (length content) content) bound
  start_inside e = nothing (λ i l both. true≢false (sym e ∙ both.2))

  -- so where its position is no lower or its room does not meet the set
  pub start_dull : (bound ≤ a.position - 1) ⊎ (meets room a.set ≡ false) → bound ≡ lowest_by box (rule_of Starting (length content) content) bound
  start_dull h = ⊎_elim start_higher start_apart h

  -- and where its clause is settled
  pub start_shut : settled_clause box (a ∷ []) ≡ true → bound ≡ lowest_by box (rule_of Starting (length content) content) bound
  start_shut e = start_inside (sym (single_settled box a) ∙ e)

  -- else its position
  pub start_open : 1 ≤ a.position → room < 2 ^ 32 → a.position - 1 < bound → meets room a.set ≡ true → inside room a.set ≡ false
      → a.position - 1 ≡ lowest_by box (rule_of Starting (length content) content) bound
  unfolding room_at
  start_open low mask l met out =
      sym (lowest_only (splits_by box (clause (a ∷ []))) bound (a.position - 1) l may (λ i t. omega (arith, (splits i t).0))) ∙ as-clause
    where
      up : a.position ≡ a.position - 1 + 1
      up = omega arith

      live : T (live_at box (a ∷ []) (a.position - 1))
      live = (live-first box a [] (a.position - 1)).1 ((either_holds _ _).1 (inl ((lives box a (a.position - 1)).1 (up, true_test (meets room a.set) met))))

      unsettled : settled_clause box (a ∷ []) ≡ false
      unsettled = single_settled box a ∙ out

      two : 2 ≤ count room
      two = live_two (a ∷ []) box a.position mask unsettled (subst (λ (p : ℕ). T (is_live (a ∷ []) p (room_at box p))) (sym up) live)

      may : T (splits_by box (clause (a ∷ [])) (a.position - 1))
      may = (by-clause box (a ∷ []) bound (a.position - 1)).1 (two, live, unsettled)
