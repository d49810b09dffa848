-- Laws of the rising list of a set's values. Assumes nothing.
use mathlib.Core.Path.{◌≡◌, refl, sym, ◌∙◌, subst}
use mathlib.Core.Logic.{◌⊎◌, inl, inr, ⊎_elim}
use mathlib.Core.List.Memᴰ
use mathlib.Core.List.{List, [], ◌∷◌, Memᴰ}
use Prim.Native.Nat.{ℕ, zero, suc, ◌+◌, ◌/◌, ◌%◌, ◌^◌, ◌≤◌, ◌<◌}
use native.Mathlib.Nat.{le_of_suc-le-suc, not-suc-le-zero, add-suc, suc-add, add-zero}
use native.Mathlib.Numerals.{one-add}
use native.Mathlib.Omega.{arith}
use Rattle.sets.specs.Sets.{digit, IsMember, listed_if, values_from, values}
use Rattle.sets.specs.Sets.{IsRising}
use Rattle.sets.proofs.Digits.{digit_small}
use Rattle.sets.proofs.Members.{member-digit, member-not_zero, member_below}

-- the values of the empty set
pub values_of_zero : (k x : ℕ) → values_from k x 0 ≡ []
unfolding values_from
values_of_zero zero x = refl
values_of_zero (suc k) x = refl

-- the lowest value, if it is there, and the values of the rest
pub values_step : (k x m : ℕ) → values_from (suc k) x m ≡ listed_if (m % 2) x (values_from k (suc x) (m / 2))
unfolding values_from listed_if
values_step k x zero = sym (values_of_zero k (suc x))
values_step k x (suc m) = refl

-- ---- which values are listed

listed_if_lem : {y : ℕ} (d x : ℕ) (xs : List ℕ) → d < 2 → Memᴰ y (listed_if d x xs) → ((d ≡ 1) × (y ≡ x)) ⊎ Memᴰ y xs
unfolding listed_if
listed_if_lem zero x xs h t = inr t
listed_if_lem (suc zero) x xs h t = ⊎_elim (λ e. inl (refl, e)) (λ u. inr u) (Memᴰ.cases_cons t)
listed_if_lem (suc (suc d)) x xs h t = absurd (not-suc-le-zero (le_of_suc-le-suc (le_of_suc-le-suc h)))

listed_later : {y : ℕ} (d x : ℕ) (xs : List ℕ) → Memᴰ y xs → Memᴰ y (listed_if d x xs)
unfolding listed_if
listed_later zero x xs t = t
listed_later (suc d) x xs t = Memᴰ.tail t

listed_now : (d x : ℕ) (xs : List ℕ) → d ≡ 1 → Memᴰ x (listed_if d x xs)
unfolding listed_if
listed_now zero x xs e = absurd (omega arith)
listed_now (suc d) x xs e = Memᴰ.head refl

listed_forth : (k x m y : ℕ) → Memᴰ y (values_from k x m) → (j : ℕ) × (y ≡ x + j) × (digit j m ≡ 1)
unfolding values_from digit
listed_forth zero x m y t = absurd (Memᴰ.not-nil t)
listed_forth (suc k) x m y t =
    ⊎_elim (λ (h : (m % 2 ≡ 1) × (y ≡ x)). now h.0 h.1) (λ (u : Memᴰ y (values_from k (suc x) (m / 2))). later (listed_forth k (suc x) (m / 2) y u))
    (listed_if_lem (m % 2) x (values_from k (suc x) (m / 2)) (digit_small zero m) (subst (λ (l : List ℕ). Memᴰ y l) (values_step k x m) t))
  where
    now : m % 2 ≡ 1 → y ≡ x → (j : ℕ) × (y ≡ x + j) × (digit j m ≡ 1)
    now d e = (0, e ∙ sym (add-zero x), d)

    later : (j : ℕ) × (y ≡ suc x + j) × (digit j (m / 2) ≡ 1) → (j : ℕ) × (y ≡ x + j) × (digit j m ≡ 1)
    later (j, e, d) = (suc j, e ∙ suc-add x j ∙ sym (add-suc x j), d)

-- k values from x on lie below x + k, whatever the number
listed_below : (k x m y : ℕ) → Memᴰ y (values_from k x m) → y < x + k
unfolding values_from digit
listed_below zero x m y t = absurd (Memᴰ.not-nil t)
listed_below (suc k) x m y t =
    ⊎_elim (λ (h : (m % 2 ≡ 1) × (y ≡ x)). omega (arith, h.1)) (λ (u : Memᴰ y (values_from k (suc x) (m / 2))). let h = listed_below k (suc x) (m / 2) y u in omega arith)
    (listed_if_lem (m % 2) x (values_from k (suc x) (m / 2)) (digit_small zero m) (subst (λ (l : List ℕ). Memᴰ y l) (values_step k x m) t))

-- so all values are at most 32
pub values-most : (m y : ℕ) → Memᴰ y (values m) → y ≤ 32
unfolding values
values-most m y t = let h = listed_below 32 1 m y t in omega arith

listed_back : (k x m j : ℕ) → j < k → digit j m ≡ 1 → Memᴰ (x + j) (values_from k x m)
unfolding digit
listed_back zero x m j h d = absurd (not-suc-le-zero h)
listed_back (suc k) x m zero h d =
    subst (λ (l : List ℕ). Memᴰ (x + 0) l) (sym (values_step k x m))
    (Memᴰ.cast (add-zero x) (listed_now (m % 2) x (values_from k (suc x) (m / 2)) d))
listed_back (suc k) x m (suc j) h d =
    subst (λ (l : List ℕ). Memᴰ (x + suc j) l) (sym (values_step k x m))
    (listed_later (m % 2) x (values_from k (suc x) (m / 2)) (Memᴰ.cast (add-suc x j ∙ sym (suc-add x j)) (listed_back k (suc x) (m / 2) j (le_of_suc-le-suc h) d)))

-- exactly the members are listed
pub member_of_listed : (m y : ℕ) → Memᴰ y (values m) → IsMember y m
unfolding values
member_of_listed m y t =
    let found = listed_forth 32 1 m y t in
    subst (λ (z : ℕ). IsMember z m) (sym (found.1 ∙ one-add found.0)) ((member-digit found.0 m).1 found.2)

pub listed_of-member : (m y : ℕ) → m < 2 ^ 32 → IsMember y m → Memᴰ y (values m)
unfolding values
listed_of-member m zero h t = absurd (member-not_zero m t)
listed_of-member m (suc j) h t = Memᴰ.cast (sym (one-add j)) (listed_back 32 1 m j (member_below 32 (suc j) m h t) ((member-digit j m).0 t))

-- ---- the list rises

rising_lower : (low low' : ℕ) (xs : List ℕ) → low' ≤ low → IsRising low xs → IsRising low' xs
unfolding IsRising
rising_lower low low' [] h r = r
rising_lower low low' (x ∷ xs) h r = (omega arith, r.1)

rising_listed : (d low x : ℕ) (xs : List ℕ) → low < x → IsRising x xs → IsRising low (listed_if d x xs)
unfolding IsRising listed_if
rising_listed zero low x xs h r = rising_lower x low xs (omega arith) r
rising_listed (suc d) low x xs h r = (h, r)

values_from-rising : (k low x m : ℕ) → low < x → IsRising low (values_from k x m)
unfolding IsRising values_from
values_from-rising zero low x m h = tt
values_from-rising (suc k) low x m h =
    subst (IsRising low) (sym (values_step k x m)) (rising_listed (m % 2) low x (values_from k (suc x) (m / 2)) h (values_from-rising k x (suc x) (m / 2) (omega arith)))

pub values-rising : (m : ℕ) → IsRising 0 (values m)
unfolding values
values-rising m = values_from-rising 32 0 1 m (omega arith)

-- what is listed in a rising list lies above its lower end
pub rising_above : (low : ℕ) (xs : List ℕ) {y : ℕ} → IsRising low xs → Memᴰ y xs → low < y
unfolding IsRising
rising_above low [] r t = absurd (Memᴰ.not-nil t)
rising_above low (x ∷ xs) {y} r t =
    ⊎_elim (λ (e : y ≡ x). subst (λ (z : ℕ). low < z) (sym e) r.0) (λ u. let h = rising_above x xs r.1 u in omega arith) (Memᴰ.cases_cons t)
