-- Laws of marks on positions: a position is marked exactly if it is in their set, `marked-exactly`; with one mark more that position is in it, and those that were, `marks-exactly`. Assumes nothing.
use mathlib.Core.Path.{◌≡◌, refl, sym, ap, subst}
use mathlib.Core.Logic.Iff
use mathlib.Core.Logic.{◌↔◌, ◌⊎◌, inl, inr, ⊎_elim}
use mathlib.Core.Bool.{Bool}
use Prim.Native.Nat.{ℕ, suc, ◌^◌}
use native.Mathlib.Omega.{arith}
use lib.Dec.{T}
use Rattle.lists.proofs.ListLaws.{either_same}
use Rattle.sets.specs.Sets.{IsMember}
use Rattle.sets.specs.Marks.{is_marked, with_mark}
use Rattle.sets.specs.Promise.{Marked, Marks}
use Rattle.sets.proofs.Members.{member_empty, member_power, member_union}
use Rattle.sets.proofs.Sameness.{inside_iff}

-- a position is marked exactly if it is in the set of the marks
pub marked-exactly : (p marks : ℕ) → T (is_marked p marks) ↔ IsMember (suc p) marks
unfolding is_marked
marked-exactly p marks = (
  λ t. (inside_iff (2 ^ p) marks).0 t (suc p) ((member_power p (suc p)).1 refl),
  λ t. (inside_iff (2 ^ p) marks).1 λ x u. subst (λ (y : ℕ). IsMember y marks) (sym ((member_power p x).0 u)) t,
)

-- with one mark more the set has that position, and those that it had
pub marks-exactly : (p marks x : ℕ) → IsMember x (with_mark p marks) ↔ (IsMember x marks ⊎ (x ≡ suc p))
unfolding with_mark
marks-exactly p marks x = Iff.trans (member_union x marks (2 ^ p)) (either_same (λ t. t, λ t. t) (member_power p x))

-- what the test gives keeps the promise
pub marked-kept : {p marks : ℕ} {r : Bool} → r ≡ is_marked p marks → Marked marks p r
marked-kept {p} {marks} e = record { result = e; members = subst (λ (b : Bool). T b ↔ IsMember (suc p) marks) (sym e) (marked-exactly p marks) }

-- and so do the marks with one more
pub marks-kept : {p marks r : ℕ} → r ≡ with_mark p marks → Marks marks p r
marks-kept {p} {marks} e = record { result = e; members = λ x. subst (λ (m : ℕ). IsMember x m ↔ (IsMember x marks ⊎ (x ≡ suc p))) (sym e) (marks-exactly p marks x) }

-- at the start none is marked
pub none_marked : (q : ℕ) → T (is_marked q 0) → ⊥
none_marked q t = member_empty (suc q) ((marked-exactly q 0).0 t)

module _ (q p marks : ℕ) where
  -- with one mark more, a position that is marked is that one, or was marked
  pub marked_was : T (is_marked q (with_mark p marks)) → (q ≡ p) ⊎ T (is_marked q marks)
  marked_was t = ⊎_elim (λ u. inr ((marked-exactly q marks).1 u)) (λ e. inl (omega arith)) ((marks-exactly p marks (suc q)).0 ((marked-exactly q (with_mark p marks)).0 t))

  -- and each of these is marked
  pub marked_now : (q ≡ p) ⊎ T (is_marked q marks) → T (is_marked q (with_mark p marks))
  marked_now either = (marked-exactly q (with_mark p marks)).1 ((marks-exactly p marks (suc q)).1 (⊎_elim (λ e. inr (ap suc e)) (λ t. inl ((marked-exactly q marks).0 t)) either))
