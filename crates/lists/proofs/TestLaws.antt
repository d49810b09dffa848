-- Laws of tests: what a test says that holds, and one that fails. Assumes nothing.
use mathlib.Core.Path.{◌≡◌, refl, sym, subst}
use mathlib.Core.Bool.{Bool, true, false, not, ◌&&◌, ◌||◌}
use mathlib.Core.Logic.Iff
use mathlib.Core.Logic.{◌↔◌, ◌⊎◌, inl, inr, ⊎_elim}
use Prim.Native.Nat.{ℕ, ◌≤◌}
use native.Mathlib.Omega.{arith}
use lib.Dec.{T, leb, ltb, eqb, T_not, not_T, leb→le, le→leb, ltb→lt, nltb→le, eqb→eq, eqb_refl}

-- a test that holds is true
pub test_true : (b : Bool) → T b → b ≡ true
test_true true t = refl
test_true false t = absurd t

-- and one that is true holds
pub true_test : (b : Bool) → b ≡ true → T b
true_test true e = tt
true_test false e = subst T (sym e) tt

-- two tests that say the same are the same
pub test_same : (b c : Bool) → (T b → T c) → (T c → T b) → b ≡ c
test_same true true f g = refl
test_same true false f g = absurd (f tt)
test_same false true f g = absurd (g tt)
test_same false false f g = refl

-- a test holds or fails
pub test_cases : (b : Bool) → T b ⊎ (T b → ⊥)
test_cases true = inl tt
test_cases false = inr (λ t. t)

-- a test that does not fail holds
pub not-not : (b : Bool) → T (not (not b)) ↔ T b
not-not true = Iff.rfl
not-not false = Iff.rfl

-- two tests hold together exactly if each does
pub both_hold : (b c : Bool) → T (b && c) ↔ (T b × T c)
both_hold true c = (λ t. (tt, t), λ t. t.1)
both_hold false c = (λ t. absurd t, λ t. t.0)

-- the test of at most
pub le_holds : (a b : ℕ) → T (leb a b) ↔ (a ≤ b)
le_holds a b = (leb→le a b, le→leb a b)

-- the test of less fails exactly if the order is the other way
pub lt_fails : (a b : ℕ) → T (not (ltb a b)) ↔ (b ≤ a)
lt_fails a b = (nltb→le a b, λ h. not_T (ltb a b) (λ t. omega (arith, ltb→lt a b t)))

-- the test of equality
pub eq_holds : (a b : ℕ) → T (eqb a b) ↔ (a ≡ b)
eq_holds a b = (eqb→eq a b, λ e. subst (λ (k : ℕ). T (eqb a k)) e (eqb_refl a))

-- the test of equality fails exactly if the numbers differ
pub eq_fails : (a b : ℕ) → T (not (eqb a b)) ↔ (a ≡ b → ⊥)
eq_fails a b = (λ t e. T_not (eqb a b) t ((eq_holds a b).1 e), λ f. not_T (eqb a b) (λ t. f (eqb→eq a b t)))

-- one of two tests holds exactly if the first does or the second
pub either_holds : (b c : Bool) → T (b || c) ↔ (T b ⊎ T c)
either_holds true c = (inl, λ s. tt)
either_holds false c = (inr, ⊎_elim absurd (λ t. t))

-- a test fails exactly if it is false
pub fails_false : (b : Bool) → T (not b) ↔ (b ≡ false)
fails_false true = (absurd, λ e. subst T e tt)
fails_false false = (λ t. refl, λ e. tt)
