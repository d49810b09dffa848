-- Laws of unions and common parts: with the empty set, of three sets, where a union is empty, and what lies inside a union. Assumes nothing.
use mathlib.Core.Path.{◌≡◌, subst}
use mathlib.Core.Logic.{inl, inr, ⊎_elim, ⊎_map}
use Prim.Native.Nat.{ℕ}
use lib.Bits.{and_zero_l, and_zero_r, or_zero_l, or_zero_r, or_comm}
use lib.Dec.{T}
use Rattle.sets.specs.Sets.{IsMember, union, common, inside}
use Rattle.sets.proofs.Members.{member_empty, member_union, member-common}
use Rattle.sets.proofs.Sameness.{member_extensional, no-member_empty, inside_iff}

-- ---- with the empty set

-- a union with the empty set is the other set
pub union_empty : (m : ℕ) → union m 0 ≡ m
unfolding union
union_empty m = or_zero_r m

-- the same, from the left
pub empty-union : (m : ℕ) → union 0 m ≡ m
unfolding union
empty-union m = or_zero_l m

-- a common part with the empty set is empty
pub common_empty : (m : ℕ) → common m 0 ≡ 0
unfolding common
common_empty m = and_zero_r m

-- the same, from the left
pub empty-common : (m : ℕ) → common 0 m ≡ 0
unfolding common
empty-common m = and_zero_l m

-- where a union is empty the first set is
pub left_empty : (a b : ℕ) → union a b ≡ 0 → a ≡ 0
left_empty a b e = no-member_empty a λ x t. member_empty x (subst (IsMember x) e ((member_union x a b).1 (inl t)))

-- and so is the second
pub right_empty : (a b : ℕ) → union a b ≡ 0 → b ≡ 0
right_empty a b e = no-member_empty b λ x t. member_empty x (subst (IsMember x) e ((member_union x a b).1 (inr t)))

-- the empty set lies inside every set
pub empty-inside : (m : ℕ) → T (inside 0 m)
empty-inside m = (inside_iff 0 m).1 λ x u. absurd (member_empty x u)

-- ---- of three sets

-- a union may be united onto a set one part after the other
pub union_onto : (a b c : ℕ) → union a (union b c) ≡ union (union a b) c
union_onto a b c = member_extensional (union a (union b c)) (union (union a b) c) λ x. (
  λ t. (member_union x (union a b) c).1 (⊎_elim (λ u. inl ((member_union x a b).1 (inl u))) (λ u. ⊎_map (λ w. (member_union x a b).1 (inr w)) (λ w. w) ((member_union x b c).0 u)) ((member_union x a (union b c)).0 t)),
  λ t. (member_union x a (union b c)).1 (⊎_elim (λ u. ⊎_map (λ w. w) (λ w. (member_union x b c).1 (inl w)) ((member_union x a b).0 u)) (λ u. inr ((member_union x b c).1 (inr u))) ((member_union x (union a b) c).0 t)),
)

-- what a set shares with a union: the union of what it shares with each
pub common-union : (r a b : ℕ) → common r (union a b) ≡ union (common r a) (common r b)
common-union r a b = member_extensional (common r (union a b)) (union (common r a) (common r b)) λ x. (
  λ t.
      let both = (member-common x r (union a b)).0 t in
      (member_union x (common r a) (common r b)).1 (⊎_map (λ u. (member-common x r a).1 (both.0, u)) (λ u. (member-common x r b).1 (both.0, u)) ((member_union x a b).0 both.1)),
  λ t.
      ⊎_elim (λ u. let both = (member-common x r a).0 u in (member-common x r (union a b)).1 (both.0, (member_union x a b).1 (inl both.1)))
      (λ u. let both = (member-common x r b).0 u in (member-common x r (union a b)).1 (both.0, (member_union x a b).1 (inr both.1)))
      ((member_union x (common r a) (common r b)).0 t),
)

-- a set inside one part lies inside the union
pub inside-union : (r a b : ℕ) → T (inside r a) → T (inside r (union a b))
inside-union r a b t = (inside_iff r (union a b)).1 λ x u. (member_union x a b).1 (inl ((inside_iff r a).0 t x u))

-- a set inside a union that does not meet the second part lies inside the first
pub inside-first : (r a b : ℕ) → common r b ≡ 0 → T (inside r (union a b)) → T (inside r a)
inside-first r a b none t = (inside_iff r a).1 λ x u.
    ⊎_elim (λ (h : IsMember x a). h) (λ (h : IsMember x b). absurd (member_empty x (subst (IsMember x) none ((member-common x r b).1 (u, h))))) ((member_union x a b).0 ((inside_iff r (union a b)).0 t x u))

-- and the other way round
pub inside_second : (r a b : ℕ) → common r a ≡ 0 → T (inside r (union a b)) → T (inside r b)
unfolding union
inside_second r a b none t = inside-first r b a none (subst (λ (m : ℕ). T (inside r m)) (or_comm a b) t)
