-- Laws of membership: who is in each set that the operations make. The layers above cite these and unfold no operation. Assumes nothing.
use mathlib.Core.Path.{◌≡◌, sym, ap, ap₂, ◌∙◌, subst}
use mathlib.Core.Logic.{◌↔◌, ◌⊎◌, inl, inr, ⊎_elim}
use mathlib.Core.Bool.{Bool, true, false, ◌&&◌}
use Prim.Native.Nat.{ℕ, zero, suc, ◌-◌, ◌^◌, ◌≤◌, ◌<◌, min, max, zero-le}
use native.Mathlib.Nat.{not-suc-le-zero, zero-lt-suc, zero-min}
use native.Mathlib.Decide.{dec_le, ℕ_discrete}
use native.Mathlib.Omega.{arith}
use lib.Dec.{T, eqb, leb, eqb→eq, leb→le, le→leb}
use lib.Pow.{ones_lt}
use lib.Bits.{bit_and, bit_or, bit_xor, differ}
use borrow.Author.Tests.{eq-eqb}
use Rattle.lists.proofs.TestLaws.{true_test}
use Rattle.sets.specs.Sets.{digit, is_member, IsMember, in_range, only_if, full, single, union, common, complement}
use Rattle.sets.proofs.Digits.{digit_small, digit_cases, digit_of_zero, digit_high, digit_and, digit_or, digit-xor, digit_ones_low, digit_power_same, digit_power_other}

-- ---- a member is a digit

pub member-digit : (k m : ℕ) → IsMember (suc k) m ↔ (digit k m ≡ 1)
unfolding is_member
member-digit k m = (λ t. eqb→eq (digit k m) 1 t, λ e. true_test (eqb (digit k m) 1) (eq-eqb (digit k m) 1 e))

pub member-not_zero : (m : ℕ) → IsMember 0 m → ⊥
unfolding is_member
member-not_zero m t = t

pub member_positive : (x m : ℕ) → IsMember x m → 1 ≤ x
member_positive zero m t = absurd (member-not_zero m t)
member_positive (suc k) m t = zero-lt-suc k

-- a set of k digits holds no value above k
pub member_below : (k x m : ℕ) → m < 2 ^ k → IsMember x m → x ≤ k
member_below k zero m h t = zero-le
member_below k (suc j) m h t = ⊎_elim (λ (l : suc j ≤ k). l) (λ (g : suc j ≤ k → ⊥). absurd (high g)) (cases (dec_le (suc j) k))
  where
    cases : Dec (suc j ≤ k) → (suc j ≤ k) ⊎ (suc j ≤ k → ⊥)
    cases (yes l) = inl l
    cases (no g) = inr g

    high : (suc j ≤ k → ⊥) → ⊥
    high g =
        let e : digit j m ≡ 0 = digit_high k j m h (omega arith) in
        let d : digit j m ≡ 1 = (member-digit j m).0 t in
        omega arith

-- every value of a mask is 1 to 32
pub member_range : (x m : ℕ) → m < 2 ^ 32 → IsMember x m → (1 ≤ x) × (x ≤ 32)
member_range x m h t = (member_positive x m t, member_below 32 x m h t)

pub member_empty : (x : ℕ) → IsMember x 0 → ⊥
member_empty zero t = member-not_zero 0 t
member_empty (suc k) t =
    let d : digit k 0 ≡ 1 = (member-digit k 0).0 t in
    let z : digit k 0 ≡ 0 = digit_of_zero k in
    omega arith

-- ---- members of the sets that operations make

pub member_union : (x a b : ℕ) → IsMember x (union a b) ↔ (IsMember x a ⊎ IsMember x b)
unfolding union
member_union zero a b = (λ t. absurd (member-not_zero (bit_or a b) t), ⊎_elim (λ t. absurd (member-not_zero a t)) (λ t. absurd (member-not_zero b t)))
member_union (suc k) a b = (forth, back)
  where
    forth : IsMember (suc k) (bit_or a b) → IsMember (suc k) a ⊎ IsMember (suc k) b
    forth t =
        let e : max (digit k a) (digit k b) ≡ 1 = sym (digit_or k a b) ∙ (member-digit k (bit_or a b)).0 t in
        ⊎_elim (λ (z : digit k a ≡ 0). inr ((member-digit k b).1 (omega arith))) (λ (o : digit k a ≡ 1). inl ((member-digit k a).1 o)) (digit_cases k a)

    one : (digit k a ≡ 1) ⊎ (digit k b ≡ 1) → digit k (bit_or a b) ≡ 1
    one (inl e) = let s = digit_small k b in digit_or k a b ∙ omega arith
    one (inr e) = let s = digit_small k a in digit_or k a b ∙ omega arith

    back : IsMember (suc k) a ⊎ IsMember (suc k) b → IsMember (suc k) (bit_or a b)
    back (inl t) = (member-digit k (bit_or a b)).1 (one (inl ((member-digit k a).0 t)))
    back (inr t) = (member-digit k (bit_or a b)).1 (one (inr ((member-digit k b).0 t)))

pub member-common : (x a b : ℕ) → IsMember x (common a b) ↔ (IsMember x a × IsMember x b)
unfolding common
member-common zero a b = (λ t. absurd (member-not_zero (bit_and a b) t), λ t. absurd (member-not_zero a t.0))
member-common (suc k) a b = (forth, back)
  where
    forth : IsMember (suc k) (bit_and a b) → IsMember (suc k) a × IsMember (suc k) b
    forth t =
        let e : min (digit k a) (digit k b) ≡ 1 = sym (digit_and k a b) ∙ (member-digit k (bit_and a b)).0 t in
        let sa = digit_small k a in
        let sb = digit_small k b in
        ((member-digit k a).1 (omega arith), (member-digit k b).1 (omega arith))

    back : IsMember (suc k) a × IsMember (suc k) b → IsMember (suc k) (bit_and a b)
    back t =
        let ea : digit k a ≡ 1 = (member-digit k a).0 t.0 in
        let eb : digit k b ≡ 1 = (member-digit k b).0 t.1 in
        (member-digit k (bit_and a b)).1 (digit_and k a b ∙ omega arith)

-- ---- {1..n} and {x}

-- n is 1 to 32, as a test and as a fact
pub in_range_lem : (n : ℕ) → T (in_range n) ↔ ((1 ≤ n) × (n ≤ 32))
unfolding in_range
in_range_lem n = (λ t. (leb→le 1 n (both_left (leb 1 n) (leb n 32) t), leb→le n 32 (both_right (leb 1 n) (leb n 32) t)), λ h. both (leb 1 n) (leb n 32) (le→leb 1 n h.0) (le→leb n 32 h.1))
  where
    both : (b c : Bool) → T b → T c → T (b && c)
    both true c t u = u
    both false c t u = t

    both_left : (b c : Bool) → T (b && c) → T b
    both_left true c t = tt
    both_left false c t = t

    both_right : (b c : Bool) → T (b && c) → T c
    both_right true c t = t
    both_right false c t = absurd t

-- what is in a set that is there only where a test holds
pub member-only_if : (x m : ℕ) (b : Bool) → IsMember x (only_if b m) ↔ (T b × IsMember x m)
unfolding only_if
member-only_if x m true = (λ t. (tt, t), λ t. t.1)
member-only_if x m false = (λ t. absurd (member_empty x t), λ t. absurd t.0)

pub member-full : (n x : ℕ) → IsMember x (full n) ↔ ((n ≤ 32) × (1 ≤ x) × (x ≤ n))
unfolding full
member-full n x = (forth, back x)
  where
    forth : IsMember x (only_if (in_range n) (2 ^ n - 1)) → (n ≤ 32) × (1 ≤ x) × (x ≤ n)
    forth t =
        let s = (member-only_if x (2 ^ n - 1) (in_range n)).0 t in
        (((in_range_lem n).0 s.0).1, member_positive x (2 ^ n - 1) s.1, member_below n x (2 ^ n - 1) (ones_lt n) s.1)

    back : (y : ℕ) → (n ≤ 32) × (1 ≤ y) × (y ≤ n) → IsMember y (only_if (in_range n) (2 ^ n - 1))
    back zero h = absurd (not-suc-le-zero h.1)
    back (suc k) h = (member-only_if (suc k) (2 ^ n - 1) (in_range n)).1 ((in_range_lem n).1 (omega arith, h.0), (member-digit k (2 ^ n - 1)).1 (digit_ones_low n k h.2))

-- a power of two has one member
pub member_power : (k x : ℕ) → IsMember x (2 ^ k) ↔ (x ≡ suc k)
member_power k x = (forth x, λ e. subst (λ (z : ℕ). IsMember z (2 ^ k)) (sym e) ((member-digit k (2 ^ k)).1 (digit_power_same k)))
  where
    forth : (z : ℕ) → IsMember z (2 ^ k) → z ≡ suc k
    forth zero t = absurd (member-not_zero (2 ^ k) t)
    forth (suc j) t = only (ℕ_discrete j k)
      where
        only : Dec (j ≡ k) → suc j ≡ suc k
        only (yes e) = ap suc e
        only (no ne) =
            let is : digit j (2 ^ k) ≡ 1 = (member-digit j (2 ^ k)).0 t in
            let is-not : digit j (2 ^ k) ≡ 0 = digit_power_other k j ne in
            absurd (omega arith)

pub member-single : (x y : ℕ) → IsMember y (single x) ↔ ((1 ≤ x) × (x ≤ 32) × (y ≡ x))
unfolding single
member-single x y = (forth, back)
  where
    up : 1 ≤ x → suc (x - 1) ≡ x
    up h = omega arith

    forth : IsMember y (only_if (in_range x) (2 ^ (x - 1))) → (1 ≤ x) × (x ≤ 32) × (y ≡ x)
    forth t =
        let s = (member-only_if y (2 ^ (x - 1)) (in_range x)).0 t in
        let range = (in_range_lem x).0 s.0 in
        (range.0, range.1, (member_power (x - 1) y).0 s.1 ∙ up range.0)

    back : (1 ≤ x) × (x ≤ 32) × (y ≡ x) → IsMember y (only_if (in_range x) (2 ^ (x - 1)))
    back h = (member-only_if y (2 ^ (x - 1)) (in_range x)).1 ((in_range_lem x).1 (h.0, h.1), (member_power (x - 1) y).1 (h.2 ∙ sym (up h.0)))

pub member-complement : (n m x : ℕ) → IsMember x (complement n m) ↔ ((n ≤ 32) × (1 ≤ x) × (x ≤ n) × (IsMember x m → ⊥))
unfolding complement common
member-complement n m zero = (λ t. absurd (member-not_zero (bit_xor (full n) (bit_and (full n) m)) t), λ h. absurd (not-suc-le-zero h.1))
member-complement n m (suc k) = (forth, back)
  where
    all : ℕ
    all = full n

    both : digit k (bit_xor all (bit_and all m)) ≡ differ (digit k all) (min (digit k all) (digit k m))
    both = digit-xor k all (bit_and all m) ∙ ap (differ (digit k all)) (digit_and k all m)

    forth : IsMember (suc k) (bit_xor all (bit_and all m)) → (n ≤ 32) × (1 ≤ suc k) × (suc k ≤ n) × (IsMember (suc k) m → ⊥)
    forth t =
        let e : differ (digit k all) (min (digit k all) (digit k m)) ≡ 1 = sym both ∙ (member-digit k (bit_xor all (bit_and all m))).0 t in
        let there : digit k all ≡ 1 = ⊎_elim (λ (z : digit k all ≡ 0). absurd (empty z e)) (λ o. o) (digit_cases k all) in
        let h = (member-full n (suc k)).0 ((member-digit k all).1 there) in
        (h.0, h.1, h.2, λ u. taken there ((member-digit k m).0 u) e)
      where
        empty : digit k all ≡ 0 → differ (digit k all) (min (digit k all) (digit k m)) ≡ 1 → ⊥
        empty z e = let s : differ (digit k all) (min (digit k all) (digit k m)) ≡ 0 = ap (λ (d : ℕ). differ d (min d (digit k m))) z ∙ zero-min (digit k m) in omega arith

        taken : digit k all ≡ 1 → digit k m ≡ 1 → differ (digit k all) (min (digit k all) (digit k m)) ≡ 1 → ⊥
        taken o u e = let s : differ (digit k all) (min (digit k all) (digit k m)) ≡ 0 = ap₂ (λ (d g : ℕ). differ d (min d g)) o u in omega arith

    back : (n ≤ 32) × (1 ≤ suc k) × (suc k ≤ n) × (IsMember (suc k) m → ⊥) → IsMember (suc k) (bit_xor all (bit_and all m))
    back h =
        let there : digit k all ≡ 1 = (member-digit k all).0 ((member-full n (suc k)).1 (h.0, h.1, h.2)) in
        let gone : digit k m ≡ 0 = ⊎_elim (λ (z : digit k m ≡ 0). z) (λ o. absurd (h.3 ((member-digit k m).1 o))) (digit_cases k m) in
        (member-digit k (bit_xor all (bit_and all m))).1 (both ∙ ap₂ (λ (d g : ℕ). differ d (min d g)) there gone)
