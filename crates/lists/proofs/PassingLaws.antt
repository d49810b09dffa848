-- Laws of how many of a list pass a test: of two tests, by what they say of the listed elements. Assumes nothing.
use mathlib.Core.Path.{◌≡◌, refl, sym, subst}
use mathlib.Core.Bool.{Bool, true, false}
use mathlib.Core.Logic.{◌↔◌, ⊎_elim}
use mathlib.Core.List.Memᴰ
use mathlib.Core.List.{List, [], ◌∷◌, Memᴰ}
use Prim.Native.Nat.{ℕ, zero, suc, ◌≤◌, ◌<◌}
use native.Mathlib.Decide.{dec_lt}
use native.Mathlib.Omega.{arith}
use lib.Dec.{T}
use lib.ListN.{length, get_or}
use Rattle.lists.specs.Lists.{Every}
use Rattle.lists.specs.Passing.{passing}
use Rattle.lists.proofs.ListLaws.{every_at-place, every_of_places}
use Rattle.lists.proofs.TestLaws.{true_test}

module _ {A : Type 0} where
  -- a first element that passes is one more
  pub passing_one : (test : A → Bool) (x : A) (xs : List A) → test x ≡ true → passing test (x ∷ xs) ≡ suc (passing test xs)
  unfolding passing
  passing_one test x xs e = rw (e, passing)

  -- one that fails is none
  pub passing-none : (test : A → Bool) (x : A) (xs : List A) → test x ≡ false → passing test (x ∷ xs) ≡ passing test xs
  unfolding passing
  passing-none test x xs e = rw (e, passing)

  -- what holds of the two numbers it can be holds of it
  passing-by : (test : A → Bool) (x : A) (xs : List A) (P : ℕ → Type 0) → (T (test x) → P (suc (passing test xs))) → ((T (test x) → ⊥) → P (passing test xs)) → P (passing test (x ∷ xs))
  unfolding passing
  passing-by test x xs P passes fails = go (test x) refl
    where
      go : (b : Bool) → test x ≡ b → P (elim b [ true ↦ suc (passing test xs) | false ↦ passing test xs ])
      go true e = passes (true_test (test x) e)
      go false e = fails (λ t. subst T e t)

  -- no more pass than there are
  pub passing-most : (test : A → Bool) (xs : List A) → passing test xs ≤ length xs
  unfolding passing
  passing-most test [] = omega arith
  passing-most test (x ∷ xs) =
      let rest = passing-most test xs in
      passing-by test x xs (λ k. k ≤ suc (length xs)) (λ t. omega arith) (λ f. omega arith)

  -- where more pass the second test, one passes it that does not pass the first
  pub passing_more : (f g : A → Bool) (xs : List A) → passing f xs < passing g xs → (x : A) × Memᴰ x xs × T (g x) × (T (f x) → ⊥)
  unfolding passing
  passing_more f g [] h = absurd (omega arith)
  passing_more f g (x ∷ xs) h = go (passing_more f g xs) h
    where
      Found : List A → Type 0
      Found ys = (y : A) × Memᴰ y ys × T (g y) × (T (f y) → ⊥)

      go : (passing f xs < passing g xs → Found xs) → passing f (x ∷ xs) < passing g (x ∷ xs) → Found (x ∷ xs)
      go rest =
          passing-by g x xs (λ k. passing f (x ∷ xs) < k → Found (x ∷ xs))
          (λ t. passing-by f x xs (λ k. k < suc (passing g xs) → Found (x ∷ xs)) (λ u l. later (rest (omega arith))) (λ n l. (x, Memᴰ.head refl, t, n)))
          (λ m. passing-by f x xs (λ k. k < passing g xs → Found (x ∷ xs)) (λ u l. later (rest (omega arith))) (λ n l. later (rest l)))
        where
          later : Found xs → Found (x ∷ xs)
          later found = (found.0, Memᴰ.tail found.1, found.2, found.3)

  module _ (f g : A → Bool) (xs : List A) (more : (x : A) → Memᴰ x xs → T (f x) → T (g x)) where
    -- where all that pass the first test pass the second, at least as many pass it
    pub passing-at_most : passing f xs ≤ passing g xs
    passing-at_most = go (dec_lt (passing g xs) (passing f xs))
      where
        go : Dec (passing g xs < passing f xs) → passing f xs ≤ passing g xs
        go (yes l) = let found = passing_more g f xs l in absurd (found.3 (more found.0 found.1 found.2))
        go (no l) = omega arith

  -- and where no more pass it, all that pass it pass the first
  pub passing_back : (f g : A → Bool) (xs : List A) → ((x : A) → Memᴰ x xs → T (f x) → T (g x)) → passing g xs ≤ passing f xs → (x : A) → Memᴰ x xs → T (g x) → T (f x)
  passing_back f g [] more h y t u = absurd (Memᴰ.not-nil t)
  passing_back f g (x ∷ xs) more h y t u = go (λ l s. passing_back f g xs (λ z r. more z (Memᴰ.tail r)) l y s u) h
    where
      fewer : passing f xs ≤ passing g xs
      fewer = passing-at_most f g xs (λ z r. more z (Memᴰ.tail r))

      go : (passing g xs ≤ passing f xs → Memᴰ y xs → T (f y)) → passing g (x ∷ xs) ≤ passing f (x ∷ xs) → T (f y)
      go rest =
          passing-by f x xs (λ k. passing g (x ∷ xs) ≤ k → T (f y))
          (λ q. passing-by g x xs (λ k. k ≤ suc (passing f xs) → T (f y)) (λ p l. ⊎_elim (λ e. subst (λ (z : A). T (f z)) (sym e) q) (rest (omega arith)) (Memᴰ.cases_cons t))
          (λ n l. absurd (n (more x (Memᴰ.head refl) q))))
          (λ m. passing-by g x xs (λ k. k ≤ passing f xs → T (f y)) (λ p l. absurd (omega (arith, fewer)))
          (λ n l. ⊎_elim (λ e. absurd (n (subst (λ (z : A). T (g z)) e u))) (rest l) (Memᴰ.cases_cons t)))

  -- tests that say the same of every listed element are passed by as many
  pub passing_same : (f g : A → Bool) (xs : List A) → ((x : A) → Memᴰ x xs → (T (f x) → T (g x)) × (T (g x) → T (f x))) → passing f xs ≡ passing g xs
  passing_same f g xs same =
      let up = passing-at_most f g xs (λ x t. (same x t).0) in
      let down = passing-at_most g f xs (λ x t. (same x t).1) in
      omega arith

  -- none passes exactly if every element fails
  pub passing_zero : (test : A → Bool) (xs : List A) → (passing test xs ≤ 0) ↔ Every (λ x. T (test x) → ⊥) xs
  unfolding passing
  passing_zero test [] = (λ h. tt, λ h. omega arith)
  passing_zero test (x ∷ xs) =
      let rest = passing_zero test xs in
      passing-by test x xs (λ k. (k ≤ 0) ↔ Every (λ y. T (test y) → ⊥) (x ∷ xs)) (λ t. (λ h. absurd (omega arith), λ h. absurd (h.0 t))) (λ f. (λ h. (f, rest.0 h), λ h. rest.1 h.1))

-- at most one number of a list passes exactly if of every two, one behind the other, one fails
pub passing-at_most_one : (test : ℕ → Bool) (xs : List ℕ) → (passing test xs ≤ 1) ↔ ((i j : ℕ) → i < j → j < length xs → T (test (get_or xs i 0)) → T (test (get_or xs j 0)) → ⊥)
unfolding passing
passing-at_most_one test [] = (λ h i j l g. absurd (omega arith), λ h. omega arith)
passing-at_most_one test (x ∷ xs) = go (passing-at_most_one test xs) (passing_zero test xs)
  where
    Apart : List ℕ → Type 0
    Apart l = (i j : ℕ) → i < j → j < length l → T (test (get_or l i 0)) → T (test (get_or l j 0)) → ⊥

    none : Every (λ y. T (test y) → ⊥) xs → (j : ℕ) → j < length xs → T (test (get_or xs j 0)) → ⊥
    none each j l = every_at-place (λ y. T (test y) → ⊥) xs j each l

    first : Every (λ y. T (test y) → ⊥) xs → Apart (x ∷ xs)
    first each zero zero l g t u = omega arith
    first each zero (suc j) l g t u = none each j (omega arith) u
    first each (suc i) zero l g t u = omega arith
    first each (suc i) (suc j) l g t u = none each j (omega arith) u

    later : (T (test x) → ⊥) → Apart xs → Apart (x ∷ xs)
    later f apart zero j l g t u = f t
    later f apart (suc i) zero l g t u = omega arith
    later f apart (suc i) (suc j) l g t u = apart i j (omega arith) (omega arith) t u

    go : ((passing test xs ≤ 1) ↔ Apart xs) → ((passing test xs ≤ 0) ↔ Every (λ y. T (test y) → ⊥) xs) → (passing test (x ∷ xs) ≤ 1) ↔ Apart (x ∷ xs)
    go one zero' =
        passing-by test x xs (λ k. (k ≤ 1) ↔ Apart (x ∷ xs))
        (λ t. (λ h. first (zero'.0 (omega arith)), λ apart. omega (arith, zero'.1 (every_of_places (λ y. T (test y) → ⊥) xs (λ j l u. apart 0 (suc j) (omega arith) (omega arith) t u)))))
        (λ f. (λ h. later f (one.0 h), λ apart. one.1 (λ i j l g t u. apart (suc i) (suc j) (omega arith) (omega arith) t u)))
