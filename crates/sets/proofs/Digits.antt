-- Laws of a number's binary digits: the operations on masks go digit by digit, and a number is known by its digits. Assumes nothing.
use mathlib.Core.Path.{◌≡◌, refl, sym, ap, ap₂, ◌∙◌, subst}
use mathlib.Core.Logic.{◌⊎◌, inl, inr}
use Prim.Native.Nat.{ℕ, zero, suc, ◌+◌, ◌-◌, ◌*◌, ◌/◌, ◌%◌, ◌^◌, ◌≤◌, ◌<◌, min, max}
use native.Mathlib.Nat.{pow-suc, zero-lt-suc, mod-lt, div-add-mod', div-lt_iff_lt-mul, not-suc-le-zero, le_of_suc-le-suc}
use native.Mathlib.Omega.{arith}
use lib.Arith.{digits_div, digits_mod, lt-one}
use lib.Pow.{pow_pos}
use lib.Bits.{bit_and, bit_or, bit_xor, differ, and_step, or_step, xor_step}
use Rattle.sets.specs.Sets.{digit}

two_pos : zero < 2
two_pos = zero-lt-suc 1

-- a digit is 0 or 1
pub digit_small : (k m : ℕ) → digit k m < 2
unfolding digit
digit_small zero m = mod-lt m two_pos
digit_small (suc k) m = digit_small k (m / 2)

pub digit_cases : (k m : ℕ) → (digit k m ≡ 0) ⊎ (digit k m ≡ 1)
digit_cases k m = go (digit k m) (digit_small k m)
  where
    go : (d : ℕ) → d < 2 → (d ≡ 0) ⊎ (d ≡ 1)
    go zero h = inl refl
    go (suc zero) h = inr refl
    go (suc (suc d)) h = absurd (not-suc-le-zero (le_of_suc-le-suc (le_of_suc-le-suc h)))

pub digit_of_zero : (k : ℕ) → digit k 0 ≡ 0
unfolding digit
digit_of_zero zero = refl
digit_of_zero (suc k) = digit_of_zero k

pub half_below : (k m : ℕ) → m < 2 ^ suc k → m / 2 < 2 ^ k
half_below k m h = (div-lt_iff_lt-mul two_pos).1 (subst (λ (n : ℕ). m < n) (pow-suc 2 k) h)

-- no digit is set at or above a length that holds the number
pub digit_high : (k j m : ℕ) → m < 2 ^ k → k ≤ j → digit j m ≡ 0
unfolding digit
digit_high zero j m h l = ap (digit j) (lt-one h) ∙ digit_of_zero j
digit_high (suc k) zero m h l = absurd (not-suc-le-zero l)
digit_high (suc k) (suc j) m h l = digit_high k j (m / 2) (half_below k m h) (le_of_suc-le-suc l)

-- a number below 2 ^ k is known by its k lowest digits
pub digit_extensional : (k a b : ℕ) → a < 2 ^ k → b < 2 ^ k → ((j : ℕ) → j < k → digit j a ≡ digit j b) → a ≡ b
unfolding digit
digit_extensional zero a b ha hb same = lt-one ha ∙ sym (lt-one hb)
digit_extensional (suc k) a b ha hb same =
    let upper : a / 2 ≡ b / 2 = digit_extensional k (a / 2) (b / 2) (half_below k a ha) (half_below k b hb) (λ j h. same (suc j) (omega arith)) in
    let lower : a % 2 ≡ b % 2 = same zero (zero-lt-suc k) in
    sym (div-add-mod' a 2) ∙ ap₂ (λ (x y : ℕ). x * 2 + y) upper lower ∙ div-add-mod' b 2

-- ---- an operation that goes digit by digit

module _ (f g : ℕ → ℕ → ℕ) (small : (x y : ℕ) → x < 2 → y < 2 → g x y < 2) (step : (a b : ℕ) → f a b ≡ f (a / 2) (b / 2) * 2 + g (a % 2) (b % 2)) where
  pub digit_each : (k a b : ℕ) → digit k (f a b) ≡ g (digit k a) (digit k b)
  unfolding digit
  digit_each zero a b = ap (λ (n : ℕ). n % 2) (step a b) ∙ digits_mod (f (a / 2) (b / 2)) (small (a % 2) (b % 2) (mod-lt a two_pos) (mod-lt b two_pos))
  digit_each (suc k) a b =
      ap (λ (n : ℕ). digit k (n / 2)) (step a b)
      ∙ ap (digit k) (digits_div (f (a / 2) (b / 2)) (small (a % 2) (b % 2) (mod-lt a two_pos) (mod-lt b two_pos)))
      ∙ digit_each k (a / 2) (b / 2)

pub digit_and : (k a b : ℕ) → digit k (bit_and a b) ≡ min (digit k a) (digit k b)
digit_and = digit_each bit_and min (λ x y hx hy. omega arith) and_step

pub digit_or : (k a b : ℕ) → digit k (bit_or a b) ≡ max (digit k a) (digit k b)
digit_or = digit_each bit_or max (λ x y hx hy. omega arith) or_step

differ_small : (x y : ℕ) → x < 2 → y < 2 → differ x y < 2
differ_small zero y hx hy = hy
differ_small (suc x) zero hx hy = hx
differ_small (suc x) (suc y) hx hy = differ_small x y (omega arith) (omega arith)

pub digit-xor : (k a b : ℕ) → digit k (bit_xor a b) ≡ differ (digit k a) (digit k b)
digit-xor = digit_each bit_xor differ differ_small xor_step

-- ---- the digits of 2 ^ n - 1 and of 2 ^ n

half_odd : (m : ℕ) → (m * 2 + 1) / 2 ≡ m
half_odd m = digits_div m {m = 2} {r = 1} (omega arith)

pub digit_ones_low : (n k : ℕ) → k < n → digit k (2 ^ n - 1) ≡ 1
unfolding digit
digit_ones_low zero k h = absurd (not-suc-le-zero h)
digit_ones_low (suc n) zero h = ap (λ (m : ℕ). (m - 1) % 2) (pow-suc 2 n) ∙ odd (2 ^ n) (pow_pos n)
  where
    odd : (p : ℕ) → 0 < p → (p * 2 - 1) % 2 ≡ 1
    odd p h' = omega arith
digit_ones_low (suc n) (suc k) h = ap (λ (m : ℕ). digit k ((m - 1) / 2)) (pow-suc 2 n) ∙ ap (digit k) (halved (2 ^ n) (pow_pos n)) ∙ digit_ones_low n k (le_of_suc-le-suc h)
  where
    halved : (p : ℕ) → 0 < p → (p * 2 - 1) / 2 ≡ p - 1
    halved p h' = omega arith

-- the digit at place n of 2 ^ n, and at any other place
pub digit_power_same : (n : ℕ) → digit n (2 ^ n) ≡ 1
unfolding digit
digit_power_same zero = refl
digit_power_same (suc n) = ap (digit n) (ap (λ (m : ℕ). m / 2) (pow-suc 2 n) ∙ doubled (2 ^ n)) ∙ digit_power_same n
  where
    doubled : (p : ℕ) → p * 2 / 2 ≡ p
    doubled p = omega arith

pub digit_power_other : (n k : ℕ) → (k ≡ n → ⊥) → digit k (2 ^ n) ≡ 0
unfolding digit
digit_power_other zero zero h = absurd (h refl)
digit_power_other zero (suc k) h = digit_of_zero k
digit_power_other (suc n) zero h = ap (λ (m : ℕ). m % 2) (pow-suc 2 n) ∙ even (2 ^ n)
  where
    even : (p : ℕ) → p * 2 % 2 ≡ 0
    even p = omega arith
digit_power_other (suc n) (suc k) h = ap (digit k) (ap (λ (m : ℕ). m / 2) (pow-suc 2 n) ∙ doubled (2 ^ n)) ∙ digit_power_other n k (λ e. h (ap suc e))
  where
    doubled : (p : ℕ) → p * 2 / 2 ≡ p
    doubled p = omega arith
