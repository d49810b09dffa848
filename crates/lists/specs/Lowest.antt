-- The lowest number that passes a test. Assumes nothing.
use Rattle.std.specs.Prelude.{ℕ, zero, suc, Bool, true, false}

-- the lowest number below a bound that passes the test, and the bound where none does
unfoldable pub lowest : (ℕ → Bool) → ℕ → ℕ
lowest test zero = zero
lowest test (suc n) = elim (test 0) [ true ↦ 0 | false ↦ suc (lowest (λ i. test (suc i)) n) ]
