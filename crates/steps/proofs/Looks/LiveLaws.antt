-- Laws of live positions: the union of a position's sets in a clause, when a position is live, and which positions are listed. Assumes nothing.
use mathlib.Core.Path.{◌≡◌, refl, sym, subst}
use mathlib.Core.Logic.Iff
use mathlib.Core.Logic.{◌↔◌, ◌⊎◌, inl, inr, ⊎_elim}
use mathlib.Core.Bool.{Bool, true, false}
use mathlib.Core.List.Memᴰ
use mathlib.Core.List.{List, [], ◌∷◌, Memᴰ}
use Prim.Native.Nat.{ℕ, zero, suc, ◌+◌, ◌^◌, ◌<◌}
use native.Mathlib.Omega.{arith}
use lib.Dec.{T, eqb, T_not}
use lib.ListN.{length, get_or}
use Rattle.sets.specs.Sets.{IsMember, common, is_empty, IsRising}
use Rattle.sets.proofs.Members.{member_empty, member_union}
use Rattle.lists.proofs.TestLaws.{test_true, test_same, test_cases}
use Rattle.sets.proofs.Sameness.{empty_test}
use Rattle.sets.proofs.Outside.{meets_of_shared, shared_of-meets}
use Rattle.lists.proofs.ListLaws.{either_same}
use Rattle.rules.specs.declared.field.Atom.{Atom}
use Rattle.lists.specs.Lists.{Some}
use Rattle.rules.specs.Rules.{clause}
use Rattle.rules.specs.Meaning.{value_at, MeetsAtom, Meets}
use Rattle.lists.proofs.TestLaws.{eq_holds}
use Rattle.lists.proofs.ListLaws.{some_of_listed, listed_of_some, some_map}
use Rattle.steps.specs.Shrinking.{unite_if, united, is_live, live_from}

-- ---- the union of a position's sets

member-unite_if : (x m rest : ℕ) (b : Bool) → IsMember x (unite_if b m rest) ↔ ((T b × IsMember x m) ⊎ IsMember x rest)
unfolding unite_if
member-unite_if x m rest true =
    let either = member_union x m rest in
    (λ t. ⊎_elim (λ u. inl (tt, u)) inr (either.0 t), λ s. either.1 (⊎_elim (λ u. inl u.1) inr s))
member-unite_if x m rest false = (inr, ⊎_elim (λ u. absurd u.0) (λ t. t))

-- a value is in the union exactly if some atom of the position has it
pub member-united : (p x : ℕ) (atoms : List Atom) → IsMember x (united p atoms) ↔ Some (λ a. (a.position ≡ p) × IsMember x a.set) atoms
unfolding united
member-united p x [] = (member_empty x, absurd)
member-united p x (a ∷ more) =
    Iff.trans (member-unite_if x a.set (united p more) (eqb a.position p)) (either_same (Iff.and (eq_holds a.position p) Iff.rfl) (member-united p x more))

-- a position with a value in its union is named by an atom
pub united-named : (p x : ℕ) (atoms : List Atom) → IsMember x (united p atoms) → (a : Atom) × Memᴰ a atoms × (a.position ≡ p)
united-named p x atoms t =
    let found = listed_of_some (λ a. (a.position ≡ p) × IsMember x a.set) atoms ((member-united p x atoms).0 t) in
    (found.0, found.1, found.2.0)

-- a clause is met exactly if some position has a value in its union
pub meets-united : (a : List ℕ) (atoms : List Atom) → Meets a (clause atoms) ↔ ((p : ℕ) × IsMember (value_at a p) (united p atoms))
meets-united a atoms = (forth, back)
  where
    forth : Meets a (clause atoms) → (p : ℕ) × IsMember (value_at a p) (united p atoms)
    forth m =
        let found = listed_of_some (MeetsAtom a) atoms m in
        let p = found.0.position in
        (p, (member-united p (value_at a p) atoms).1 (some_of_listed (λ b. (b.position ≡ p) × IsMember (value_at a p) b.set) found.1 (refl, found.2)))

    back : (p : ℕ) × IsMember (value_at a p) (united p atoms) → Meets a (clause atoms)
    back s =
        let p = s.0 in
        some_map (λ b. (b.position ≡ p) × IsMember (value_at a p) b.set) (MeetsAtom a) atoms
        (λ b h. subst (λ (q : ℕ). IsMember (value_at a q) b.set) (sym h.0) h.1)
        ((member-united p (value_at a p) atoms).0 s.1)

-- ---- live

-- a position is live where its room and its union share a value
pub live_of_shared : (atoms : List Atom) (p room x : ℕ) → IsMember x room → IsMember x (united p atoms) → T (is_live atoms p room)
unfolding is_live
live_of_shared atoms p room x t u = meets_of_shared room (united p atoms) x t u

-- what a live position's room shares with its union is not empty
pub live-not_empty : (atoms : List Atom) (p room : ℕ) → T (is_live atoms p room) → common room (united p atoms) ≡ 0 → ⊥
unfolding is_live
live-not_empty atoms p room t e = T_not (is_empty (common room (united p atoms))) t ((empty_test (common room (united p atoms))).1 e)

-- a live position's room and its union share a value
pub shared_of_live : (atoms : List Atom) (p room : ℕ) → room < 2 ^ 32 → T (is_live atoms p room) → (x : ℕ) × IsMember x room × IsMember x (united p atoms)
unfolding is_live
shared_of_live atoms p room h t = shared_of-meets room (united p atoms) h t

-- ---- the list of live positions

module _ (atoms : List Atom) (q room : ℕ) (box : List ℕ) where
  -- a first position that is live is listed first
  live-first : T (is_live atoms q room) → live_from atoms q (room ∷ box) ≡ q ∷ live_from atoms (q + 1) box
  unfolding live_from
  live-first t = rw (test_true (is_live atoms q room) t)

  -- a first position that is not live is passed over
  live_later : (T (is_live atoms q room) → ⊥) → live_from atoms q (room ∷ box) ≡ live_from atoms (q + 1) box
  unfolding live_from
  live_later t = rw (test_same (is_live atoms q room) false t absurd)

  -- what is listed is the first position, where it is live, and what is listed of the others
  live_step : (p : ℕ) → Memᴰ p (live_from atoms q (room ∷ box)) ↔ (((p ≡ q) × T (is_live atoms q room)) ⊎ Memᴰ p (live_from atoms (q + 1) box))
  live_step p = go (test_cases (is_live atoms q room))
    where
      go : T (is_live atoms q room) ⊎ (T (is_live atoms q room) → ⊥)
          → Memᴰ p (live_from atoms q (room ∷ box)) ↔ (((p ≡ q) × T (is_live atoms q room)) ⊎ Memᴰ p (live_from atoms (q + 1) box))
      go (inl live) = rw (live-first live) (λ t. ⊎_elim (λ e. inl (e, live)) inr (Memᴰ.cases_cons t), ⊎_elim (λ h. Memᴰ.head h.0) (λ t. Memᴰ.tail t))
      go (inr dull) = rw (live_later dull) (inr, ⊎_elim (λ h. absurd (dull h.1)) (λ t. t))

-- the positions from q on that are live in the box
abbrev LiveFrom : List Atom → ℕ → List ℕ → ℕ → Type 0
LiveFrom atoms q box p = (i : ℕ) × (p ≡ q + i) × (i < length box) × T (is_live atoms p (get_or box i 0))

-- a position is listed exactly if it has a room and is live there
pub live_listed : (atoms : List Atom) (q : ℕ) (box : List ℕ) (p : ℕ) → Memᴰ p (live_from atoms q box) ↔ LiveFrom atoms q box p
unfolding live_from
live_listed atoms q [] p = (λ t. absurd (Memᴰ.not-nil t), λ h. absurd (omega arith))
live_listed atoms q (room ∷ box) p =
    Iff.trans (live_step atoms q room box p) (Iff.trans (either_same Iff.rfl (live_listed atoms (q + 1) box p)) (⊎_elim here later, back))
  where
    here : (p ≡ q) × T (is_live atoms q room) → LiveFrom atoms q (room ∷ box) p
    here h = (0, omega arith, omega arith, subst (λ (r : ℕ). T (is_live atoms r room)) (sym h.0) h.1)

    later : LiveFrom atoms (q + 1) box p → LiveFrom atoms q (room ∷ box) p
    later (i, e, l, live) = (suc i, omega arith, omega arith, live)

    back : LiveFrom atoms q (room ∷ box) p → ((p ≡ q) × T (is_live atoms q room)) ⊎ LiveFrom atoms (q + 1) box p
    back (zero, e, l, live) = let same : p ≡ q = omega arith in inl (same, subst (λ (r : ℕ). T (is_live atoms r room)) same live)
    back (suc i, e, l, live) = inr (i, omega arith, omega arith, live)

-- the list rises
pub live-rising : (atoms : List Atom) (low q : ℕ) (box : List ℕ) → low < q → IsRising low (live_from atoms q box)
unfolding IsRising live_from
live-rising atoms low q [] h = tt
live-rising atoms low q (room ∷ box) h =
    go (live-rising atoms q (q + 1) box (omega arith)) (live-rising atoms low (q + 1) box (omega arith)) (test_cases (is_live atoms q room))
  where
    go : IsRising q (live_from atoms (q + 1) box) → IsRising low (live_from atoms (q + 1) box) → T (is_live atoms q room) ⊎ (T (is_live atoms q room) → ⊥)
        → IsRising low (live_from atoms q (room ∷ box))
    go above same (inl live) = rw (live-first atoms q room box live) (h, above)
    go above same (inr dull) = rw (live_later atoms q room box dull) same
