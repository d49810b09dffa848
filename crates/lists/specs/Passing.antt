-- How many of a list pass a test. Assumes nothing.
use Rattle.std.specs.Prelude.{ℕ, suc, Bool, true, false, List, [], ◌∷◌}

-- the number of elements that pass the test
unfoldable pub passing : {A : Type 0} → (A → Bool) → List A → ℕ
passing test [] = 0
passing test (x ∷ xs) = elim (test x) [ true ↦ suc (passing test xs) | false ↦ passing test xs ]
