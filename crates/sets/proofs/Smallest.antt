-- Laws of the smallest value of a set, and of a set without it. Assumes nothing.
use mathlib.Core.Path.{◌≡◌, refl, sym, ap, ap₂, ◌∙◌, subst}
use mathlib.Core.Logic.{◌↔◌, ◌⊎◌, inl, inr, ⊎_elim}
use mathlib.Core.List.Memᴰ
use mathlib.Core.List.{List, [], ◌∷◌, Memᴰ}
use Prim.Native.Nat.{ℕ, zero, suc, ◌+◌, ◌/◌, ◌%◌, ◌^◌, ◌≤◌, ◌<◌}
use native.Mathlib.Nat.{mod-lt, zero-lt-suc, add-suc, suc-add, add-zero, div-add-mod'}
use native.Mathlib.Decide.{dec_le, ℕ_discrete}
use native.Mathlib.Numerals.{lt_of_le_of_ne}
use native.Mathlib.Omega.{arith}
use lib.Arith.{lt-one}
use lib.Count.{count_trailing_zeros, under}
use lib.Dec.{T}
use Rattle.sets.specs.Sets.{IsMember, single, common, complement, inside, listed_if, values_from, values, IsRising, count, first_of, smallest, beside, others}
use Rattle.sets.proofs.Digits.{half_below}
use Rattle.sets.proofs.Members.{member_range, member_empty, member-single}
use Rattle.sets.proofs.Sameness.{single_below, inside_iff}
use Rattle.sets.proofs.Values.{values_step, member_of_listed, listed_of-member, values-rising, rising_above, values-most}
use Rattle.sets.proofs.Counting.{beside_below, member-beside, count-not_empty, count_of-single, count_zero, count_positive, count_falls, count_part}

two_pos : zero < 2
two_pos = zero-lt-suc 1

-- ---- the first of the values is one more than the zeros below it

first_listed : (d x t : ℕ) (xs : List ℕ) → d < 2 → (d ≡ 0 → first_of xs ≡ suc x + t) → first_of (listed_if d x xs) ≡ x + under d t
unfolding listed_if first_of
first_listed zero x t xs h e = e refl ∙ suc-add x t ∙ sym (add-suc x t)
first_listed (suc d) x t xs h e = sym (add-zero x)

first-values : (k x m : ℕ) → m < 2 ^ k → (m ≡ 0 → ⊥) → first_of (values_from k x m) ≡ x + count_trailing_zeros k m
unfolding count_trailing_zeros
first-values zero x m h ne = absurd (ne (lt-one h))
first-values (suc k) x m h ne =
    ap first_of (values_step k x m)
    ∙ first_listed (m % 2) x (count_trailing_zeros k (m / 2)) (values_from k (suc x) (m / 2)) (mod-lt m two_pos)
    (λ z. first-values k (suc x) (m / 2) (half_below k m h) (λ e. ne (let w = div-add-mod' m 2 in omega arith)))

pub smallest_zeros : (m : ℕ) → m < 2 ^ 32 → (m ≡ 0 → ⊥) → smallest m ≡ 1 + count_trailing_zeros 32 m
unfolding smallest values
smallest_zeros m h ne = first-values 32 1 m h ne

pub smallest_of_empty : smallest 0 ≡ 0
unfolding smallest values values_from first_of
smallest_of_empty = refl

-- ---- it is a member, and none is smaller

first-least : (low y : ℕ) (xs : List ℕ) → IsRising low xs → Memᴰ y xs → Memᴰ (first_of xs) xs × (first_of xs ≤ y)
unfolding first_of IsRising
first-least low y [] r t = absurd (Memᴰ.not-nil t)
first-least low y (x ∷ xs) r t = (Memᴰ.head refl, ⊎_elim (λ (e : y ≡ x). omega arith) (λ u. let h = rising_above x xs r.1 u in omega arith) (Memᴰ.cases_cons t))

pub smallest-least : (m x : ℕ) → m < 2 ^ 32 → IsMember x m → IsMember (smallest m) m × (smallest m ≤ x)
unfolding smallest
smallest-least m x h t = let s = first-least 0 x (values m) (values-rising m) (listed_of-member m x h t) in (member_of_listed m (first_of (values m)) s.0, s.1)

first-there : (xs : List ℕ) → (first_of xs ≡ 0 → ⊥) → Memᴰ (first_of xs) xs
unfolding first_of
first-there [] ne = absurd (ne refl)
first-there (x ∷ xs) ne = Memᴰ.head refl

smallest-there : (m : ℕ) → (smallest m ≡ 0 → ⊥) → Memᴰ (smallest m) (values m)
unfolding smallest
smallest-there m = first-there (values m)

-- it is at most 32, whatever the number
pub smallest_most : (m : ℕ) → smallest m ≤ 32
smallest_most m = go (ℕ_discrete (smallest m) 0)
  where
    go : Dec (smallest m ≡ 0) → smallest m ≤ 32
    go (yes e) = omega arith
    go (no ne) = values-most m (smallest m) (smallest-there m ne)

-- a set that is not empty holds its smallest value
pub smallest-member : (m : ℕ) → m < 2 ^ 32 → (m ≡ 0 → ⊥) → IsMember (smallest m) m
smallest-member m h ne = member_of_listed m (smallest m) (smallest-there m (λ e. let z = smallest_zeros m h ne in omega arith))

pub smallest_range : (m : ℕ) → m < 2 ^ 32 → (m ≡ 0 → ⊥) → (1 ≤ smallest m) × (smallest m ≤ 32)
smallest_range m h ne = member_range (smallest m) m h (smallest-member m h ne)

-- ---- the smallest value alone, and the others

-- a set that is not empty holds {its smallest value}
pub single-inside : (m x : ℕ) → IsMember x m → T (inside (single x) m)
single-inside m x t = (inside_iff (single x) m).1 (λ y u. subst (λ (z : ℕ). IsMember z m) (sym ((member-single x y).0 u).2) t)

-- a set has one value exactly if it is {its smallest value}
pub count_one : (m : ℕ) → m < 2 ^ 32 → (count m ≡ 1) ↔ ((x : ℕ) × (1 ≤ x) × (x ≤ 32) × (m ≡ single x))
count_one m h = (forth, λ s. ap count s.3 ∙ count_of-single s.0 s.1 s.2)
  where
    forth : count m ≡ 1 → (x : ℕ) × (1 ≤ x) × (x ≤ 32) × (m ≡ single x)
    forth e = (smallest m, (smallest_range m h ne).0, (smallest_range m h ne).1, same (ℕ_discrete (single (smallest m)) m))
      where
        ne : m ≡ 0 → ⊥
        ne z = let c : count m ≡ 0 = (count_zero m h).1 z in omega arith

        same : Dec (single (smallest m) ≡ m) → m ≡ single (smallest m)
        same (yes s) = sym s
        same (no d) =
            let f : count (single (smallest m)) < count m = count_falls (single (smallest m)) m (single_below (smallest m)) h (single-inside m (smallest m) (smallest-member m h ne)) d in
            let o : count (single (smallest m)) ≡ 1 = count_of-single (smallest m) (smallest_range m h ne).0 (smallest_range m h ne).1 in
            absurd (omega arith)

-- two members of a set with fewer than two values are the same
pub count_one-member : (m x y : ℕ) → m < 2 ^ 32 → count m < 2 → IsMember x m → IsMember y m → x ≡ y
count_one-member m x y h c t u = only x t ∙ sym (only y u)
  where
    one : count m ≡ 1
    one = let p = count_positive m h (λ e. member_empty x (subst (λ (s : ℕ). IsMember x s) e t)) in omega arith

    only : (z : ℕ) → IsMember z m → z ≡ ((count_one m h).0 one).0
    only z v = ((member-single ((count_one m h).0 one).0 z).0 (subst (λ (s : ℕ). IsMember z s) ((count_one m h).0 one).3 v)).2

pub others_below : (m : ℕ) → m < 2 ^ 32 → others m < 2 ^ 32
unfolding others
others_below m h = beside_below (single (smallest m)) m h

-- the others, as they are computed: what the set shares with the complement of its smallest value
pub others_computed : (m one beyond rest : ℕ) → one ≡ single (smallest m) → beyond ≡ complement 32 one → rest ≡ common m beyond → rest ≡ others m
unfolding others beside
others_computed m one beyond rest e f g = g ∙ ap (common m) (f ∙ ap (complement 32) e)

-- the others are the members that are not the smallest
pub member-others : (m x : ℕ) → m < 2 ^ 32 → (m ≡ 0 → ⊥) → IsMember x (others m) ↔ (IsMember x m × (x ≡ smallest m → ⊥))
unfolding others
member-others m x h ne = (
  λ t. let s = (member-beside (single (smallest m)) m x h).0 t in (s.0, λ e. s.1 ((member-single (smallest m) x).1 (range.0, range.1, e))),
  λ s. (member-beside (single (smallest m)) m x h).1 (s.0, λ t. s.1 ((member-single (smallest m) x).0 t).2),
)
  where
    range : (1 ≤ smallest m) × (smallest m ≤ 32)
    range = smallest_range m h ne

pub others-inside : (m : ℕ) → m < 2 ^ 32 → T (inside (others m) m)
unfolding others
others-inside m h = (inside_iff (others m) m).1 (λ x t. ((member-beside (single (smallest m)) m x h).0 t).0)

-- every other value is above the smallest
pub others_above : (m x : ℕ) → m < 2 ^ 32 → (m ≡ 0 → ⊥) → IsMember x (others m) → smallest m < x
others_above m x h ne t =
    let s = (member-others m x h ne).0 t in
    let l : smallest m ≤ x = (smallest-least m x h s.0).1 in
    lt_of_le_of_ne l (λ e. s.1 (sym e))

-- the others are the members above some member
pub others_smaller : (m x : ℕ) → m < 2 ^ 32 → IsMember x (others m) ↔ (IsMember x m × ((y : ℕ) × IsMember y m × (y < x)))
others_smaller m x h = (
  λ t.
      let u : IsMember x m = (inside_iff (others m) m).0 (others-inside m h) x t in
      (u, (smallest m, smallest-member m h (has x u), others_above m x h (has x u) t)),
  λ s. let least = (smallest-least m s.1.0 h s.1.1).1 in (member-others m x h (has x s.0)).1 (s.0, λ e. omega arith),
)
  where
    has : (y : ℕ) → IsMember y m → m ≡ 0 → ⊥
    has y t e = member_empty y (subst (IsMember y) e t)

-- the smallest value and the others make the whole
pub count-others : (m : ℕ) → m < 2 ^ 32 → (m ≡ 0 → ⊥) → count m ≡ 1 + count (others m)
unfolding others
count-others m h ne =
    count_part (single (smallest m)) m (single_below (smallest m)) h (single-inside m (smallest m) (smallest-member m h ne))
    ∙ ap (λ (n : ℕ). n + count (others m)) (count_of-single (smallest m) (smallest_range m h ne).0 (smallest_range m h ne).1)

-- ---- the list of values, its first and the others

-- two rising lists with the same elements are the same
rising_extensional : (low : ℕ) (xs ys : List ℕ) → IsRising low xs → IsRising low ys → ((y : ℕ) → Memᴰ y xs → Memᴰ y ys) → ((y : ℕ) → Memᴰ y ys → Memᴰ y xs) → xs ≡ ys
unfolding IsRising
rising_extensional low [] [] r t f g = refl
rising_extensional low [] (y ∷ ys) r t f g = absurd (Memᴰ.not-nil (g y (Memᴰ.head refl)))
rising_extensional low (x ∷ xs) [] r t f g = absurd (Memᴰ.not-nil (f x (Memᴰ.head refl)))
rising_extensional low (x ∷ xs) (y ∷ ys) r t f g =
    ap₂ (λ (z : ℕ) (zs : List ℕ). z ∷ zs) same
    (rising_extensional x xs ys r.1 (subst (λ (z : ℕ). IsRising z ys) (sym same) t.1)
    (λ z m. behind x y ys z (rising_above x xs r.1 m) same (Memᴰ.cases_cons (f z (Memᴰ.tail m))))
    (λ z m. behind y x xs z (rising_above y ys t.1 m) (sym same) (Memᴰ.cases_cons (g z (Memᴰ.tail m)))))
  where
    at_least : (z w : ℕ) (zs : List ℕ) → IsRising z zs → (w ≡ z) ⊎ Memᴰ w zs → z ≤ w
    at_least z w zs h (inl e) = omega arith
    at_least z w zs h (inr m) = let l = rising_above z zs h m in omega arith

    same : x ≡ y
    same =
        let l = at_least y x ys t.1 (Memᴰ.cases_cons (f x (Memᴰ.head refl))) in
        let k = at_least x y xs r.1 (Memᴰ.cases_cons (g y (Memᴰ.head refl))) in
        omega arith

    behind : (z w : ℕ) (ws : List ℕ) (u : ℕ) → z < u → z ≡ w → (u ≡ w) ⊎ Memᴰ u ws → Memᴰ u ws
    behind z w ws u l e (inl d) = absurd (omega arith)
    behind z w ws u l e (inr m) = m

rising-from : (low : ℕ) (xs : List ℕ) → ((y : ℕ) → Memᴰ y xs → low < y) → IsRising 0 xs → IsRising low xs
unfolding IsRising
rising-from low [] f r = tt
rising-from low (x ∷ xs) f r = (f x (Memᴰ.head refl), r.1)

rising-others : (m : ℕ) → m < 2 ^ 32 → (m ≡ 0 → ⊥) → IsRising 0 (smallest m ∷ values (others m))
unfolding IsRising
rising-others m h ne =
    ((smallest_range m h ne).0, rising-from (smallest m) (values (others m)) (λ y t. others_above m y h ne (member_of_listed (others m) y t)) (values-rising (others m)))

-- the values of a set that is not empty: the smallest, then the others
pub values-others : (m : ℕ) → m < 2 ^ 32 → (m ≡ 0 → ⊥) → values m ≡ smallest m ∷ values (others m)
values-others m h ne = rising_extensional 0 (values m) (smallest m ∷ values (others m)) (values-rising m) (rising-others m h ne) forth back
  where
    forth : (y : ℕ) → Memᴰ y (values m) → Memᴰ y (smallest m ∷ values (others m))
    forth y t = among (ℕ_discrete y (smallest m))
      where
        among : Dec (y ≡ smallest m) → Memᴰ y (smallest m ∷ values (others m))
        among (yes e) = Memᴰ.head e
        among (no d) = Memᴰ.tail (listed_of-member (others m) y (others_below m h) ((member-others m y h ne).1 (member_of_listed m y t, d)))

    back : (y : ℕ) → Memᴰ y (smallest m ∷ values (others m)) → Memᴰ y (values m)
    back y t =
        ⊎_elim (λ (e : y ≡ smallest m). listed_of-member m y h (subst (λ (z : ℕ). IsMember z m) (sym e) (smallest-member m h ne)))
        (λ u. listed_of-member m y h ((member-others m y h ne).0 (member_of_listed (others m) y u)).0) (Memᴰ.cases_cons t)

pub values_of_empty : values 0 ≡ []
unfolding values values_from
values_of_empty = refl

-- ---- two sets that share a value

-- a set that shares a value with another and does not lie inside it has two or more values
pub partly-inside_two : (a b x : ℕ) → a < 2 ^ 32 → IsMember x a → IsMember x b → (T (inside a b) → ⊥) → 2 ≤ count a
partly-inside_two a b x h t u outside = go (dec_le 2 (count a))
  where
    go : Dec (2 ≤ count a) → 2 ≤ count a
    go (yes two) = two
    go (no one) = absurd (outside ((inside_iff a b).1 (λ y v. subst (λ (z : ℕ). IsMember z b) (count_one-member a x y h (omega arith) t v) u)))

-- the smallest value of one value alone is that value
pub smallest_of-single : (x : ℕ) → 1 ≤ x → x ≤ 32 → smallest (single x) ≡ x
smallest_of-single x low high =
    let some = count-not_empty (single x) (omega (arith, count_of-single x low high)) in
    ((member-single x (smallest (single x))).0 (smallest-member (single x) (single_below x) some)).2
