-- Laws of a number in decimal: how many digits it has, and its last digit. Assumes nothing.
use mathlib.Core.Path.{◌≡◌, sym, ap, ◌∙◌}
use mathlib.Core.List.{List, [], ◌∷◌, ◌++◌}
use Prim.Native.Nat.{ℕ, zero, suc, ◌+◌, ◌/◌, ◌%◌, ◌^◌, ◌≤◌, ◌<◌}
use native.Mathlib.Nat.{pow-suc}
use native.Mathlib.Decide.{dec_lt}
use native.Mathlib.Omega.{arith}
use lib.ListN.{length, length-append}
use borrow.Author.Tests.{lt-ltb, le-ltb}
use mir.Syntax.{w8, w64}
use mir.Val.{Fits}
use Rattle.texts.specs.Bytes.{digits, decimal}

-- a byte is a number of 64 bits
pub byte_fits : {x : ℕ} → Fits w8 x → Fits w64 x
byte_fits h = omega arith

-- the digits of a number below 10
pub digits_small : (k n : ℕ) → n < 10 → digits (suc k) n ≡ (48 + n) ∷ []
unfolding digits
digits_small k n lt = rw (lt-ltb n 10 lt)

-- the digits of a number from 10 on: those of its tenth, and the last
pub digits_large : (k n : ℕ) → 10 ≤ n → digits (suc k) n ≡ digits k (n / 10) ++ ((48 + n % 10) ∷ [])
unfolding digits
digits_large k n le = rw (le-ltb n 10 le)

-- one digit more than those of the tenth
one_more : (k n : ℕ) → length (digits k (n / 10)) ≤ k → Dec (n < 10) → length (digits (suc k) n) ≤ suc k
one_more k n tenth (yes lt) = rw (digits_small k n lt) (omega arith)
one_more k n tenth (no ge) = rw (digits_large k n (omega (arith, ge)), length-append) (omega arith)

-- the digits are at most as many as are asked for
digits-length : (k n : ℕ) → length (digits k n) ≤ k
unfolding digits
digits-length zero n = omega arith
digits-length (suc k) n = one_more k n (digits-length k (n / 10)) (dec_lt n 10)

-- enough digits for the tenth, and one more, are enough for the number
enough_more : (k n : ℕ) → digits (suc k) (n / 10) ≡ digits k (n / 10) → Dec (n < 10) → digits (suc (suc k)) n ≡ digits (suc k) n
enough_more k n tenth (yes lt) = digits_small (suc k) n lt ∙ sym (digits_small k n lt)
enough_more k n tenth (no ge) =
    let large : 10 ≤ n = omega (arith, ge) in
    digits_large (suc k) n large ∙ ap (λ (ds : List ℕ). ds ++ ((48 + n % 10) ∷ [])) tenth ∙ sym (digits_large k n large)

-- one digit more than are enough changes nothing
digits-enough : (k n : ℕ) → n < 10 ^ suc k → digits (suc (suc k)) n ≡ digits (suc k) n
digits-enough zero n lt = digits_small 1 n lt ∙ sym (digits_small 0 n lt)
digits-enough (suc k) n lt = enough_more (suc k) n (digits-enough k (n / 10) (omega (arith, pow-suc 10 (suc k)))) (dec_lt n 10)

-- a number has at most 20 digits
pub decimal-length : (n : ℕ) → length (decimal n) ≤ 20
unfolding decimal
decimal-length n = digits-length 20 n

-- a number below 10 is its one digit
pub decimal_small : (n : ℕ) → n < 10 → decimal n ≡ (48 + n) ∷ []
unfolding decimal
decimal_small n lt = digits_small 19 n lt

-- a number from 10 on is its tenth with the last digit behind it
pub decimal_large : (n : ℕ) → 10 ≤ n → n < 10 ^ 20 → decimal n ≡ decimal (n / 10) ++ ((48 + n % 10) ∷ [])
unfolding decimal
decimal_large n le lt = digits_large 19 n le ∙ ap (λ (ds : List ℕ). ds ++ ((48 + n % 10) ∷ [])) (sym (digits-enough 18 (n / 10) (omega arith)))
