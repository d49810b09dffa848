-- Laws of the number of values in a set. Assumes nothing.
use mathlib.Core.Path.{◌≡◌, refl, sym, ap, ap₂, ◌∙◌, subst}
use mathlib.Core.Logic.{◌↔◌, inl, inr, ⊎_elim}
use mathlib.Core.Bool.{Bool, true, false}
use mathlib.Core.List.{List}
use Prim.Native.Nat.{ℕ, zero, suc, ◌+◌, ◌-◌, ◌*◌, ◌/◌, ◌%◌, ◌^◌, ◌≤◌, ◌<◌, min, max}
use native.Mathlib.Nat.{zero-lt-suc, mod-lt, div-add-mod', max-add-min, pow-suc, eq-zero-or-pos}
use native.Mathlib.Omega.{arith}
use lib.Arith.{digits_div, digits_mod, lt-one}
use lib.Bits.{bit_and, bit_or, or_step, and_step}
use lib.Count.{ones, ones_in, ones_step, ones-ones, ones-le}
use lib.Dec.{T}
use lib.ListN.{length}
use Rattle.sets.specs.Sets.{digit, is_member, IsMember, in_range, only_if, full, single, union, common, complement, inside, listed_if, values_from, values, count, beside}
use Rattle.sets.specs.Promise.{one_if, how_many}
use Rattle.sets.proofs.Digits.{half_below}
use Rattle.sets.proofs.Members.{in_range_lem, member-digit, member_empty, member_range, member_union, member-common, member-complement}
use Rattle.lists.proofs.TestLaws.{test_cases}
use Rattle.sets.proofs.Sameness.{full_below, single_below, union_below, common_below, member_extensional, no-member_empty, inside_iff}
use Rattle.sets.proofs.Shifts.{only_if_so}
use Rattle.sets.proofs.Values.{values_step}

two_pos : zero < 2
two_pos = zero-lt-suc 1

-- ---- the list's length is the number of ones

length_listed : (d x : ℕ) (xs : List ℕ) → d < 2 → length (listed_if d x xs) ≡ d + length xs
unfolding listed_if
length_listed zero x xs h = omega arith
length_listed (suc d) x xs h = omega arith

length-values : (k x m : ℕ) → m < 2 ^ k → length (values_from k x m) ≡ ones m
unfolding values_from ones
length-values zero x m h = sym (ap ones (lt-one h))
length-values (suc k) x m h =
    ap length (values_step k x m) ∙ length_listed (m % 2) x (values_from k (suc x) (m / 2)) (mod-lt m two_pos)
    ∙ ap (λ (n : ℕ). m % 2 + n) (length-values k (suc x) (m / 2) (half_below k m h)) ∙ sym (ones_step m)

pub count_ones : (m : ℕ) → m < 2 ^ 32 → count m ≡ ones m
unfolding count values
count_ones m h = length-values 32 1 m h

-- ---- two sets together

ones_apart : (k a b : ℕ) → a < 2 ^ k → ones (bit_or a b) + ones (bit_and a b) ≡ ones a + ones b
unfolding ones
ones_apart zero a b h = ap (λ (z : ℕ). ones (bit_or z b) + ones (bit_and z b)) (lt-one h) ∙ sums (ones b) ∙ ap (λ (z : ℕ). ones z + ones b) (sym (lt-one h))
  where
    sums : (n : ℕ) → n + 0 ≡ 0 + n
    sums n = omega arith
ones_apart (suc k) a b h =
    let below = ones_apart k (a / 2) (b / 2) (half_below k a h) in
    let sa = ones_step a in
    let sb = ones_step b in
    let so : ones (bit_or a b) ≡ max (a % 2) (b % 2) + ones (bit_or (a / 2) (b / 2)) = halves (bit_or a b) (bit_or (a / 2) (b / 2)) (max (a % 2) (b % 2)) (or_step a b) (omega (arith, mod-lt a two_pos, mod-lt b two_pos)) in
    let sc : ones (bit_and a b) ≡ min (a % 2) (b % 2) + ones (bit_and (a / 2) (b / 2)) = halves (bit_and a b) (bit_and (a / 2) (b / 2)) (min (a % 2) (b % 2)) (and_step a b) (omega (arith, mod-lt a two_pos, mod-lt b two_pos)) in
    let lowest = max-add-min (a % 2) (b % 2) in
    omega arith
  where
    halves : (n q r : ℕ) → n ≡ q * 2 + r → r < 2 → ones n ≡ r + ones q
    halves n q r e s =
        ones_step n ∙ ap₂ (λ (x y : ℕ). x + ones y) (ap (λ (z : ℕ). z % 2) e ∙ digits_mod q s) (ap (λ (z : ℕ). z / 2) e ∙ digits_div q s)

-- the values of either set and those of both make the values of the two
pub count_apart : (a b : ℕ) → a < 2 ^ 32 → b < 2 ^ 32 → count (union a b) + count (common a b) ≡ count a + count b
unfolding union common
count_apart a b ha hb =
    ap₂ (λ (x y : ℕ). x + y) (count_ones (bit_or a b) (union_below a b ha hb)) (count_ones (bit_and a b) (common_below a b ha)) ∙ ones_apart 32 a b ha
    ∙ sym (ap₂ (λ (x y : ℕ). x + y) (count_ones a ha) (count_ones b hb))

-- ---- no value, one value, all values

pub count_of_empty : count 0 ≡ 0
unfolding count values values_from
count_of_empty = refl

ones_none : (k m : ℕ) → m < 2 ^ k → ones m ≡ 0 → m ≡ 0
ones_none zero m h e = lt-one h
ones_none (suc k) m h e =
    let s : ones m ≡ m % 2 + ones (m / 2) = ones_step m in
    let upper : m / 2 ≡ 0 = ones_none k (m / 2) (half_below k m h) (omega arith) in
    let whole : m / 2 * 2 + m % 2 ≡ m = div-add-mod' m 2 in
    omega arith

-- only the empty set has no value
pub count_zero : (m : ℕ) → m < 2 ^ 32 → (count m ≡ 0) ↔ (m ≡ 0)
count_zero m h = (λ e. ones_none 32 m h (sym (count_ones m h) ∙ e), λ e. ap count e ∙ count_of_empty)

-- a set that is not empty has a value or more
pub count_positive : (m : ℕ) → m < 2 ^ 32 → (m ≡ 0 → ⊥) → 1 ≤ count m
count_positive m h ne = go (count m) refl
  where
    go : (k : ℕ) → count m ≡ k → 1 ≤ k
    go zero e = absurd (ne ((count_zero m h).0 e))
    go (suc k) e = omega arith

-- a set that has a value or more is not empty
pub count-not_empty : (m : ℕ) → 1 ≤ count m → m ≡ 0 → ⊥
count-not_empty m h e = let z : count m ≡ 0 = ap count e ∙ count_of_empty in omega arith

pub count-at_most : (m : ℕ) → m < 2 ^ 32 → count m ≤ 32
count-at_most m h = subst (λ (n : ℕ). n ≤ 32) (sym (count_ones m h)) (ones-le 32 m h)

ones_power : (k : ℕ) → ones (2 ^ k) ≡ 1
unfolding ones ones_in
ones_power zero = refl
ones_power (suc k) = ap ones (pow-suc 2 k) ∙ ones_step (2 ^ k * 2) ∙ ap₂ (λ (x y : ℕ). x + ones y) (even (2 ^ k)) (doubled (2 ^ k)) ∙ ap (λ (n : ℕ). 0 + n) (ones_power k)
  where
    even : (p : ℕ) → p * 2 % 2 ≡ 0
    even p = omega arith

    doubled : (p : ℕ) → p * 2 / 2 ≡ p
    doubled p = omega arith

pub count_of-single : (x : ℕ) → 1 ≤ x → x ≤ 32 → count (single x) ≡ 1
unfolding single
count_of-single x h l =
    count_ones (single x) (single_below x) ∙ ap ones (sym (only_if_so (in_range x) (2 ^ (x - 1)) ((in_range_lem x).1 (h, l)))) ∙ ones_power (x - 1)

pub full_of_zero : full 0 ≡ 0
unfolding full in_range only_if
full_of_zero = refl

pub count_of-full : (n : ℕ) → n ≤ 32 → count (full n) ≡ n
unfolding full
count_of-full zero l = ap count full_of_zero ∙ count_of_empty
count_of-full (suc n) l =
    count_ones (full (suc n)) (full_below (suc n)) ∙ ap ones (sym (only_if_so (in_range (suc n)) (2 ^ suc n - 1) ((in_range_lem (suc n)).1 (zero-lt-suc n, l)))) ∙ ones-ones (suc n)

-- ---- parts

pub beside_below : (a b : ℕ) → b < 2 ^ 32 → beside a b < 2 ^ 32
unfolding beside
beside_below a b hb = common_below b (complement 32 a) hb

pub member-beside : (a b x : ℕ) → b < 2 ^ 32 → IsMember x (beside a b) ↔ (IsMember x b × (IsMember x a → ⊥))
unfolding beside
member-beside a b x hb = (λ t. let s = (member-common x b (complement 32 a)).0 t in (s.0, ((member-complement 32 a x).0 s.1).3), λ t. let r = member_range x b hb t.0 in (member-common x b (complement 32 a)).1 (t.0, (member-complement 32 a x).1 (omega arith, r.0, r.1, t.1)))

-- the values add up over two disjoint parts
pub count_disjoint : (a b : ℕ) → a < 2 ^ 32 → b < 2 ^ 32 → common a b ≡ 0 → count (union a b) ≡ count a + count b
count_disjoint a b ha hb e =
    let s : count (union a b) + count (common a b) ≡ count a + count b = count_apart a b ha hb in
    let z : count (common a b) ≡ 0 = ap count e ∙ count_of_empty in
    omega arith

-- a part and what the whole has beside it
pub count_part : (a b : ℕ) → a < 2 ^ 32 → b < 2 ^ 32 → T (inside a b) → count b ≡ count a + count (beside a b)
count_part a b ha hb i = ap count whole ∙ count_disjoint a (beside a b) ha (beside_below a b hb) apart
  where
    whole : b ≡ union a (beside a b)
    whole = member_extensional b (union a (beside a b)) (λ x. (forth x, back x))
      where
        forth : (x : ℕ) → IsMember x b → IsMember x (union a (beside a b))
        forth x t = (member_union x a (beside a b)).1 (⊎_elim (λ u. inl u) (λ g. inr ((member-beside a b x hb).1 (t, g))) (test_cases (is_member x a)))

        back : (x : ℕ) → IsMember x (union a (beside a b)) → IsMember x b
        back x t = ⊎_elim (λ u. (inside_iff a b).0 i x u) (λ u. ((member-beside a b x hb).0 u).0) ((member_union x a (beside a b)).0 t)

    apart : common a (beside a b) ≡ 0
    apart = no-member_empty (common a (beside a b)) (λ x t. let s = (member-common x a (beside a b)).0 t in ((member-beside a b x hb).0 s.1).1 s.0)

pub count-inside : (a b : ℕ) → a < 2 ^ 32 → b < 2 ^ 32 → T (inside a b) → count a ≤ count b
count-inside a b ha hb i = let s = count_part a b ha hb i in omega arith

-- a proper part has fewer values
pub count_falls : (a b : ℕ) → a < 2 ^ 32 → b < 2 ^ 32 → T (inside a b) → (a ≡ b → ⊥) → count a < count b
count_falls a b ha hb i ne = let s = count_part a b ha hb i in let p = some-beside in omega arith
  where
    some-beside : 0 < count (beside a b)
    some-beside = ⊎_elim (λ (z : count (beside a b) ≡ 0). absurd (ne (same z))) (λ p. p) (eq-zero-or-pos (count (beside a b)))
      where
        same : count (beside a b) ≡ 0 → a ≡ b
        same z = member_extensional a b (λ x. ((inside_iff a b).0 i x, λ t. ⊎_elim (λ u. u) (λ g. absurd (member_empty x (subst (λ (m : ℕ). IsMember x m) ((count_zero (beside a b) (beside_below a b hb)).0 z) ((member-beside a b x hb).1 (t, g))))) (test_cases (is_member x a))))

-- ---- the number of values, counted one by one

one_if_lem : (b : Bool) (d : ℕ) → d < 2 → (T b → d ≡ 1) → (d ≡ 1 → T b) → one_if b ≡ d
unfolding one_if
one_if_lem true d h f g = sym (f tt)
one_if_lem false zero h f g = refl
one_if_lem false (suc zero) h f g = absurd (g refl)
one_if_lem false (suc (suc d)) h f g = absurd (omega arith)

how_many_step : (k m : ℕ) → how_many (suc k) m ≡ m % 2 + how_many k (m / 2)
unfolding how_many is_member digit
how_many_step zero m = ap (λ (n : ℕ). n + 0) (one_if_lem (is_member 1 m) (m % 2) (mod-lt m two_pos) (member-digit 0 m).0 (member-digit 0 m).1)
how_many_step (suc k) m = let s : how_many (suc k) m ≡ m % 2 + how_many k (m / 2) = how_many_step k m in omega arith

how_many_ones : (k m : ℕ) → m < 2 ^ k → how_many k m ≡ ones m
unfolding how_many ones
how_many_ones zero m h = sym (ap ones (lt-one h))
how_many_ones (suc k) m h = how_many_step k m ∙ ap (λ (n : ℕ). m % 2 + n) (how_many_ones k (m / 2) (half_below k m h)) ∙ sym (ones_step m)

pub count-how_many : (m : ℕ) → m < 2 ^ 32 → count m ≡ how_many 32 m
count-how_many m h = count_ones m h ∙ sym (how_many_ones 32 m h)
