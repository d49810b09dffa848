-- Laws of sets as wholes: bounds of masks, sets with the same members are the same, and inside as a statement of members. Assumes nothing.
use mathlib.Core.Path.{◌≡◌, sym, ◌∙◌, subst}
use mathlib.Core.Logic.{◌↔◌, ◌⊎◌, inl, inr}
use mathlib.Core.Bool.{Bool, true, false}
use Prim.Native.Nat.{ℕ, zero, suc, ◌+◌, ◌-◌, ◌*◌, ◌^◌, ◌<◌}
use native.Mathlib.Nat.{lt_of_lt_of_le, lt_of_le_of_lt, pow-suc, le-add_right, le-add_left}
use native.Mathlib.Omega.{arith}
use lib.Dec.{T, eqb, eqb→eq, lit<}
use lib.Pow.{pow_mono, pow-lt, ones_lt}
use lib.Bits.{or_lt, and_le_l, and_le_r}
use borrow.Author.Tests.{eq-eqb}
use Rattle.sets.specs.Sets.{digit, IsMember, in_range, only_if, full, single, union, common, is_empty, inside}
use Rattle.sets.proofs.Digits.{digit_cases, digit_extensional}
use Rattle.sets.proofs.Members.{member-digit, member_empty, member-common, in_range_lem}
use Rattle.lists.proofs.TestLaws.{true_test}

-- ---- masks stay below 2 ^ 32

only_if_below : (b : Bool) (m : ℕ) → (T b → m < 2 ^ 32) → only_if b m < 2 ^ 32
unfolding only_if
only_if_below true m h = h tt
only_if_below false m h = lit< tt

pub full_below : (n : ℕ) → full n < 2 ^ 32
unfolding full
full_below n = only_if_below (in_range n) (2 ^ n - 1) (λ t. lt_of_lt_of_le (ones_lt n) (pow_mono ((in_range_lem n).0 t).1))

pub single_below : (x : ℕ) → single x < 2 ^ 32
unfolding single
single_below x = only_if_below (in_range x) (2 ^ (x - 1)) (λ t. let h = (in_range_lem x).0 t in pow-lt {i = x - 1} {j = 32} (omega arith))

pub union_below : (a b : ℕ) → a < 2 ^ 32 → b < 2 ^ 32 → union a b < 2 ^ 32
unfolding union
union_below a b = or_lt 32 a b

pub common_below : (a b : ℕ) → a < 2 ^ 32 → common a b < 2 ^ 32
unfolding common
common_below a b h = lt_of_le_of_lt (and_le_l a b) h

-- ---- sets with the same members are the same

pub below_power : (m : ℕ) → m < 2 ^ m
below_power zero = lit< tt
below_power (suc m) = let h = below_power m in let p : 2 ^ suc m ≡ 2 ^ m * 2 = pow-suc 2 m in omega arith

pub member_extensional : (a b : ℕ) → ((x : ℕ) → IsMember x a ↔ IsMember x b) → a ≡ b
member_extensional a b same =
    digit_extensional (a + b) a b (lt_of_lt_of_le (below_power a) (pow_mono (le-add_right a b))) (lt_of_lt_of_le (below_power b) (pow_mono (le-add_left b a)))
    (λ j h. digit_same j (digit_cases j a) (digit_cases j b))
  where
    digit_same : (j : ℕ) → (digit j a ≡ 0) ⊎ (digit j a ≡ 1) → (digit j b ≡ 0) ⊎ (digit j b ≡ 1) → digit j a ≡ digit j b
    digit_same j (inl p) (inl q) = p ∙ sym q
    digit_same j (inl p) (inr q) = (member-digit j a).0 ((same (suc j)).1 ((member-digit j b).1 q)) ∙ sym q
    digit_same j (inr p) (inl q) = p ∙ sym ((member-digit j b).0 ((same (suc j)).0 ((member-digit j a).1 p)))
    digit_same j (inr p) (inr q) = p ∙ sym q

-- a set with no member is the empty set
pub no-member_empty : (m : ℕ) → ((x : ℕ) → IsMember x m → ⊥) → m ≡ 0
no-member_empty m h = member_extensional m 0 (λ x. (λ t. absurd (h x t), λ t. absurd (member_empty x t)))

pub empty_test : (m : ℕ) → T (is_empty m) ↔ (m ≡ 0)
unfolding is_empty
empty_test m = (λ t. eqb→eq m 0 t, λ e. true_test (eqb m 0) (eq-eqb m 0 e))

-- ---- inside

pub inside_iff : (a b : ℕ) → T (inside a b) ↔ ((x : ℕ) → IsMember x a → IsMember x b)
unfolding inside
inside_iff a b = (forth, back)
  where
    forth : T (eqb (common a b) a) → (x : ℕ) → IsMember x a → IsMember x b
    forth t x u = ((member-common x a b).0 (subst (λ (m : ℕ). IsMember x m) (sym (eqb→eq (common a b) a t)) u)).1

    back : ((x : ℕ) → IsMember x a → IsMember x b) → T (eqb (common a b) a)
    back h =
        true_test (eqb (common a b) a)
        (eq-eqb (common a b) a (member_extensional (common a b) a (λ x. (λ t. ((member-common x a b).0 t).0, λ t. (member-common x a b).1 (t, h x t)))))

pub inside_refl : (a : ℕ) → T (inside a a)
inside_refl a = (inside_iff a a).1 (λ x t. t)

pub inside_trans : (a b c : ℕ) → T (inside a b) → T (inside b c) → T (inside a c)
inside_trans a b c s t = (inside_iff a c).1 (λ x u. (inside_iff b c).0 t x ((inside_iff a b).0 s x u))

-- two sets that lie inside each other are the same
pub inside_antisymmetric : (a b : ℕ) → T (inside a b) → T (inside b a) → a ≡ b
inside_antisymmetric a b s t = member_extensional a b (λ x. ((inside_iff a b).0 s x, (inside_iff b a).0 t x))

pub common-inside_left : (a b : ℕ) → T (inside (common a b) a)
common-inside_left a b = (inside_iff (common a b) a).1 (λ x t. ((member-common x a b).0 t).0)

pub common-inside_right : (a b : ℕ) → T (inside (common a b) b)
common-inside_right a b = (inside_iff (common a b) b).1 (λ x t. ((member-common x a b).0 t).1)

-- the common part with a set that holds the whole is the whole
pub common_of-inside : (a b : ℕ) → T (inside a b) → common a b ≡ a
unfolding inside
common_of-inside a b t = eqb→eq (common a b) a t

-- a set inside a mask is a mask
pub inside_below : (a b : ℕ) → T (inside a b) → b < 2 ^ 32 → a < 2 ^ 32
unfolding common
inside_below a b t h = subst (λ (m : ℕ). m < 2 ^ 32) (common_of-inside a b t) (lt_of_le_of_lt (and_le_r a b) h)
