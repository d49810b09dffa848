-- The shifts by which the code makes {1..n} and {x} are the definitions. Assumes nothing.
use mathlib.Core.Path.{◌≡◌, refl, sym, ap, ◌∙◌}
use mathlib.Core.Bool.{Bool, true, false}
use Prim.Native.Nat.{ℕ, ◌-◌, ◌*◌, ◌/◌, ◌%◌, ◌^◌, ◌≤◌, ◌<◌}
use native.Mathlib.Nat.{add-sub_of_le, one-mul}
use native.Mathlib.Omega.{arith}
use lib.Dec.{T, lit<}
use lib.Pow.{ones_split, ones_lt, high, shl_exact}
use Rattle.sets.specs.Sets.{in_range, only_if, full, single}
use Rattle.sets.proofs.Members.{in_range_lem}

-- a set that is there only where a test holds, by the test
only_if-not : (b : Bool) (m : ℕ) → (T b → ⊥) → 0 ≡ only_if b m
unfolding only_if
only_if-not true m h = absurd (h tt)
only_if-not false m h = refl

pub only_if_so : (b : Bool) (m : ℕ) → T b → m ≡ only_if b m
unfolding only_if
only_if_so true m t = refl
only_if_so false m t = absurd t

pub full_outside : (n : ℕ) → ((1 ≤ n) × (n ≤ 32) → ⊥) → 0 ≡ full n
unfolding full
full_outside n h = only_if-not (in_range n) (2 ^ n - 1) (λ t. h ((in_range_lem n).0 t))

pub single_outside : (x : ℕ) → ((1 ≤ x) × (x ≤ 32) → ⊥) → 0 ≡ single x
unfolding single
single_outside x h = only_if-not (in_range x) (2 ^ (x - 1)) (λ t. h ((in_range_lem x).0 t))

pub full_shifted : (n : ℕ) → 1 ≤ n → n ≤ 32 → (2 ^ 32 - 1) / 2 ^ (32 - n) ≡ full n
unfolding full
full_shifted n h l =
    ap (λ (m : ℕ). (2 ^ m - 1) / 2 ^ (32 - n)) (sym (add-sub_of_le l)) ∙ ap (λ (m : ℕ). m / 2 ^ (32 - n)) (ones_split n (32 - n))
    ∙ high (2 ^ n - 1) (32 - n) (ones_lt (32 - n)) ∙ only_if_so (in_range n) (2 ^ n - 1) ((in_range_lem n).1 (h, l))

-- one that is shifted within a width is a power of two
pub one_shifted : (w k : ℕ) → k < w → (1 * 2 ^ k) % 2 ^ w ≡ 2 ^ k
one_shifted w k h = shl_exact 1 k w (lit< tt) (omega arith) ∙ one-mul (2 ^ k)

pub single_shifted : (x : ℕ) → 1 ≤ x → x ≤ 32 → (1 * 2 ^ (x - 1)) % 2 ^ 32 ≡ single x
unfolding single
single_shifted x h l = one_shifted 32 (x - 1) (omega arith) ∙ only_if_so (in_range x) (2 ^ (x - 1)) ((in_range_lem x).1 (h, l))
