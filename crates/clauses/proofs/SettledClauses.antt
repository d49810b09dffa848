-- Laws of settled clauses: what one atom shows, and what the atoms show one after the other, with the union of a position's sets where several meet its room. Assumes nothing.
use mathlib.Core.Path.{◌≡◌, refl, sym, ap, ap₂, ◌∙◌, subst}
use mathlib.Core.Logic.{inl, inr, ⊎_elim}
use mathlib.Core.Bool.{Bool, true, false}
use mathlib.Core.List.Memᴰ
use mathlib.Core.List.{List, [], ◌∷◌, ◌++◌, append-nil, append_assoc, Memᴰ}
use Prim.Native.Nat.{ℕ, ◌+◌, ◌-◌, ◌≤◌}
use native.Mathlib.Decide.{ℕ_discrete}
use native.Mathlib.Omega.{arith}
use lib.Dec.{T, not_T}
use borrow.Author.Tests.{not-true}
use Rattle.sets.specs.Sets.{IsMember, union, common, is_empty, inside, meets}
use Rattle.sets.proofs.Sameness.{empty_test, inside_iff, common_of-inside}
use Rattle.sets.proofs.Unions.{union_empty, common_empty, empty-inside, common-union, inside-union, inside-first, inside_second}
use Rattle.lists.specs.Lists.{Every}
use Rattle.lists.proofs.ListLaws.{some_of_listed, listed_of_some, every-over-append, every_with_some}
use Rattle.lists.proofs.TestLaws.{test_cases, test_true, true_test}
use Rattle.rules.specs.declared.field.Atom.{Atom}
use Rattle.steps.specs.Boxes.{room_at}
use Rattle.steps.specs.Shrinking.{united, settled_by, settled_clause}
use Rattle.steps.proofs.Looks.ClauseLaws.{ShowsSettled, settled_some}
use Rattle.steps.proofs.Looks.LiveLaws.{member-united}
use Rattle.sets.specs.Marks.{is_marked, with_mark}
use Rattle.clauses.specs.Scans.{shared_in}
use Rattle.clauses.proofs.AtomsInTurn.{listed_behind}
use Rattle.sets.proofs.MarkLaws.{none_marked, marked_was, marked_now}
use Rattle.clauses.proofs.UnitedLaws.{united_one, united_elsewhere, united-append}

-- ---- the atoms of a clause

module _ (box : List ℕ) (atoms : List Atom) where
  -- a room that lies inside the union of some of the atoms lies inside that of all
  wider : (p : ℕ) (some : List Atom) → ((c : Atom) → Memᴰ c some → Memᴰ c atoms) → ShowsSettled some box p → ShowsSettled atoms box p
  wider p some among t = (inside_iff (room_at box p) (united p atoms)).1 (λ x u. have x ((inside_iff (room_at box p) (united p some)).0 t x u))
    where
      have : (x : ℕ) → IsMember x (united p some) → IsMember x (united p atoms)
      have x u =
          let found = listed_of_some (λ b. (b.position ≡ p) × IsMember x b.set) some ((member-united p x some).0 u) in
          (member-united p x atoms).1 (some_of_listed (λ b. (b.position ≡ p) × IsMember x b.set) (among found.0 found.1) found.2)

  -- an atom whose position has its room inside the union of its sets among them shows the clause settled
  shows-settled : (a : Atom) (some : List Atom) → ((c : Atom) → Memᴰ c some → Memᴰ c atoms) → Memᴰ a atoms → ShowsSettled some box a.position → settled_clause box atoms ≡ true
  unfolding settled_clause
  shows-settled a some among listed t =
      test_true (settled_by atoms atoms box) ((settled_some atoms atoms box).1 (some_of_listed (λ b. ShowsSettled atoms box b.position) listed (wider a.position some among t)))

-- an atom whose set has its position's room inside it shows the clause settled
pub set_settles : (box : List ℕ) (all : List Atom) {a : Atom} → Memᴰ a all → {room : ℕ} → room ≡ room_at box a.position → {b : Bool} → b ≡ inside room a.set → b ≡ true → settled_clause box all ≡ true
set_settles box all {a} listed there test e =
    shows-settled box all a (a ∷ []) (λ c t. subst (λ (d : Atom). Memᴰ d all) (sym (Memᴰ.eq_of_singleton t)) listed) listed
    (true_test _ (ap₂ inside (sym there) (united_one a a.position refl) ∙ sym test ∙ e))

-- a room that does not meet a set shares nothing with it
apart_common : (room m : ℕ) {b : Bool} → b ≡ meets room m → b ≡ false → common room m ≡ 0
apart_common room m {b} tested e =
    ⊎_elim (λ t. (empty_test (common room m)).0 t) (λ ne. absurd (subst T (sym tested ∙ e) (not_T (is_empty (common room m)) ne))) (test_cases (is_empty (common room m)))

-- ---- the atoms of a clause, one after the other

-- Of all the atoms these are left, and those passed do not show the clause settled: no room of theirs is empty, and only an empty room lies inside its union. Where a position is not marked as met, none of them meets its room; where it is marked as tried, its room does not lie inside the union of all its sets.
pub record Trying (box : List ℕ) (all left : List Atom) (met tried : ℕ) : Type 0 where
  pub passed : List Atom
  pub parts : all ≡ passed ++ left
  pub filled : Every (λ a. room_at box a.position ≡ 0 → ⊥) passed
  pub apart : (q : ℕ) → ShowsSettled passed box q → room_at box q ≡ 0
  pub unmet : (k : ℕ) → (T (is_marked k met) → ⊥) → shared_in box passed (k + 1) ≡ 0
  pub outside : (k : ℕ) → T (is_marked k tried) → ShowsSettled all box (k + 1) → ⊥

-- at the start all are left, and there is no mark
pub trying-starts : (box : List ℕ) {all left : List Atom} {met tried : ℕ} → left ≡ all → met ≡ 0 → tried ≡ 0 → Trying box all left met tried
unfolding united
trying-starts box {all} {left} {met} {tried} e no-met no-tried = record {
  passed = [];
  parts = sym e;
  filled = tt;
  apart = λ q t. sym (common_of-inside (room_at box q) 0 t) ∙ common_empty (room_at box q);
  unmet = λ k ne. common_empty (room_at box (k + 1));
  outside = λ k t. absurd (none_marked k (subst (λ (m : ℕ). T (is_marked k m)) no-tried t));
}

module _ {box : List ℕ} {all left : List Atom} {met tried : ℕ} (trying : Trying box all left met tried) where
  abbrev passed : List Atom
  passed = trying.passed

  -- where none is left the clause is not settled
  pub trying_ends : left ≡ [] → settled_clause box all ≡ false
  unfolding settled_clause
  trying_ends end =
      let whole : all ≡ passed = trying.parts ∙ ap (λ (bs : List Atom). passed ++ bs) end ∙ append-nil passed in
      ap (λ (bs : List Atom). settled_by bs bs box) whole
      ∙ not-true (settled_by passed passed box) (test_true _ (not_T (settled_by passed passed box) λ t.
      let shown = every_with_some (λ a. room_at box a.position ≡ 0 → ⊥) (λ c. ShowsSettled passed box c.position) passed trying.filled ((settled_some passed passed box).0 t) in
      shown.2 (trying.apart shown.0.position shown.3)))

  -- the next atom is one of the clause
  pub trying_listed : {a : Atom} {more : List Atom} → left ≡ a ∷ more → Memᴰ a all
  trying_listed {a} {more} next = subst (λ (bs : List Atom). Memᴰ a bs) (sym (trying.parts ∙ ap (λ (bs : List Atom). passed ++ bs) next)) (listed_behind passed a more)

  module _ {a : Atom} {more : List Atom} (next : left ≡ a ∷ more) (low : 1 ≤ a.position) {room : ℕ} (there : room ≡ room_at box a.position) {own : Bool} (tested : own ≡ inside room a.set)
      (outer : own ≡ false) where
    abbrev p : ℕ
    p = a.position

    abbrev later : List Atom
    later = passed ++ a ∷ []

    -- its room does not lie inside its own set
    not_inside : inside (room_at box p) a.set ≡ false
    not_inside = ap (λ (r : ℕ). inside r a.set) (sym there) ∙ sym tested ∙ outer

    up : p - 1 + 1 ≡ p
    up = omega (arith, low)

    parts_next : all ≡ later ++ more
    parts_next = trying.parts ∙ ap (λ (bs : List Atom). passed ++ bs) next ∙ sym (append_assoc passed (a ∷ []) more)

    united_later : united p later ≡ union (united p passed) a.set
    united_later = united-append p passed (a ∷ []) ∙ ap (union (united p passed)) (united_one a p refl)

    -- a room that the union with it holds
    held_later : ShowsSettled later box p → T (inside (room_at box p) (union (united p passed) a.set))
    held_later t = subst (λ (m : ℕ). T (inside (room_at box p) m)) united_later t

    -- it adds nothing to the union of another position
    other_later : (q : ℕ) → (p ≡ q → ⊥) → united q later ≡ united q passed
    unfolding united
    other_later q ne = united-append q passed (a ∷ []) ∙ ap (union (united q passed)) (united_elsewhere a [] q ne) ∙ union_empty (united q passed)

    -- its room is not empty
    not_empty : room_at box p ≡ 0 → ⊥
    not_empty e = subst T not_inside (subst (λ (r : ℕ). T (inside r a.set)) (sym e) (empty-inside a.set))

    -- it is passed, where its room does not lie inside the union so far, whatever is marked then
    goes : (ShowsSettled later box p → ⊥) → {met' tried' : ℕ} → ((k : ℕ) → (T (is_marked k met') → ⊥) → shared_in box later (k + 1) ≡ 0)
        → ((k : ℕ) → T (is_marked k tried') → ShowsSettled all box (k + 1) → ⊥) → Trying box all more met' tried'
    goes unheld bare out = record {
      passed = later;
      parts = parts_next;
      filled = (every-over-append (λ b. room_at box b.position ≡ 0 → ⊥) passed (a ∷ [])).1 (trying.filled, (not_empty, tt));
      apart = λ q t. by q (ℕ_discrete p q) t;
      unmet = bare;
      outside = out;
    }
      where
        by : (q : ℕ) → Dec (p ≡ q) → ShowsSettled later box q → room_at box q ≡ 0
        by q (yes e) t = absurd (unheld (subst (ShowsSettled later box) (sym e) t))
        by q (no ne) t = trying.apart q (subst (λ (m : ℕ). T (inside (room_at box q) m)) (other_later q ne) t)

    -- another position's room is met as before
    unmet_other : (k : ℕ) → (k ≡ p - 1 → ⊥) → (T (is_marked k met) → ⊥) → shared_in box later (k + 1) ≡ 0
    unmet_other k ne bare = ap (common (room_at box (k + 1))) (other_later (k + 1) (λ e. ne (omega arith))) ∙ trying.unmet k bare

    -- an atom that does not meet its room
    pub trying_passes : {b : Bool} → b ≡ meets room a.set → b ≡ false → Trying box all more met tried
    trying_passes met_test apart = goes unheld bare trying.outside
      where
        none : common (room_at box p) a.set ≡ 0
        none = ap (λ (r : ℕ). common r a.set) (sym there) ∙ apart_common room a.set met_test apart

        unheld : ShowsSettled later box p → ⊥
        unheld t = not_empty (trying.apart p (inside-first (room_at box p) (united p passed) a.set none (held_later t)))

        bare : (k : ℕ) → (T (is_marked k met) → ⊥) → shared_in box later (k + 1) ≡ 0
        bare k ne = by (ℕ_discrete k (p - 1))
          where
            by : Dec (k ≡ p - 1) → shared_in box later (k + 1) ≡ 0
            by (yes e) =
                let same : k + 1 ≡ p = ap (λ (j : ℕ). j + 1) e ∙ up in
                ap (shared_in box later) same ∙ ap (common (room_at box p)) united_later ∙ common-union (room_at box p) (united p passed) a.set
                ∙ ap₂ union (ap (shared_in box passed) (sym same) ∙ trying.unmet k ne) none ∙ union_empty 0
            by (no off) = unmet_other k off ne

    -- the first that meets it leaves a mark
    pub trying-meets : (T (is_marked (p - 1) met) → ⊥) → {met' : ℕ} → met' ≡ with_mark (p - 1) met → Trying box all more met' tried
    trying-meets first {met'} is = goes unheld bare trying.outside
      where
        unheld : ShowsSettled later box p → ⊥
        unheld t =
            let none : shared_in box passed p ≡ 0 = ap (shared_in box passed) (sym up) ∙ trying.unmet (p - 1) first in
            subst T not_inside (inside_second (room_at box p) (united p passed) a.set none (held_later t))

        bare : (k : ℕ) → (T (is_marked k met') → ⊥) → shared_in box later (k + 1) ≡ 0
        bare k ne =
            let no-mark : T (is_marked k (with_mark (p - 1) met)) → ⊥ = λ t. ne (subst (λ (m : ℕ). T (is_marked k m)) (sym is) t) in
            unmet_other k (λ e. no-mark (marked_now k (p - 1) met (inl e))) (λ t. no-mark (marked_now k (p - 1) met (inr t)))

    -- where the union of all its sets does not hold its room, neither does that of some
    closed : (ShowsSettled all box p → ⊥) → ShowsSettled later box p → ⊥
    closed out t =
        out (subst (λ (bs : List Atom). ShowsSettled bs box p) (sym parts_next)
        (subst (λ (m : ℕ). T (inside (room_at box p) m)) (sym (united-append p later more)) (inside-union (room_at box p) (united p later) (united p more) t)))

    bare_marked : T (is_marked (p - 1) met) → (k : ℕ) → (T (is_marked k met) → ⊥) → shared_in box later (k + 1) ≡ 0
    bare_marked t k ne = unmet_other k (λ e. ne (subst (λ (j : ℕ). T (is_marked j met)) (sym e) t)) ne

    module _ (again : T (is_marked (p - 1) met)) where
      -- a later one of a position that was tried
      pub trying_knows : T (is_marked (p - 1) tried) → Trying box all more met tried
      trying_knows t = goes (closed λ s. trying.outside (p - 1) t (subst (ShowsSettled all box) (sym up) s)) (bare_marked again) trying.outside

      module _ {sets : ℕ} (unites : sets ≡ united p all) {b : Bool} (test : b ≡ inside room sets) where
        test-here : inside (room_at box p) (united p all) ≡ b
        test-here = ap₂ inside (sym there) (sym unites) ∙ sym test

        -- the union of its sets holds its room: the clause is settled
        pub trying_settles : b ≡ true → settled_clause box all ≡ true
        trying_settles e = shows-settled box all a all (λ c t. t) (trying_listed next) (true_test _ (test-here ∙ e))

        -- else it is tried
        pub trying_tries : b ≡ false → {tried' : ℕ} → tried' ≡ with_mark (p - 1) tried → Trying box all more met tried'
        trying_tries e is = goes (closed out) (bare_marked again) λ k t s.
            ⊎_elim (λ same. out (subst (ShowsSettled all box) (ap (λ (j : ℕ). j + 1) same ∙ up) s)) (λ u. trying.outside k u s) (marked_was k (p - 1) tried (subst (λ (m : ℕ). T (is_marked k m)) is t))
          where
            out : ShowsSettled all box p → ⊥
            out s = subst T (test-here ∙ e) s
