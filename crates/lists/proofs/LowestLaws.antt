-- Laws of the lowest number that passes a test. Assumes nothing.
use mathlib.Core.Path.{◌≡◌, refl, sym, subst}
use mathlib.Core.Bool.{Bool, true, false, ◌||◌}
use mathlib.Core.Logic.{◌⊎◌, inl, inr, ⊎_elim}
use Prim.Native.Nat.{ℕ, zero, suc, ◌≤◌, ◌<◌}
use native.Mathlib.Nat.{le_refl}
use native.Mathlib.Decide.{dec_lt}
use native.Mathlib.Omega.{arith}
use lib.Dec.{T}
use Rattle.lists.specs.Lowest.{lowest}
use Rattle.lists.proofs.TestLaws.{true_test, either_holds}

-- what holds of 0 where it passes, and of one more than the lowest behind it where it does not, holds of the lowest
lowest_by_lem : (test : ℕ → Bool) (n : ℕ) (P : ℕ → Type 0) → (T (test 0) → P 0) → ((T (test 0) → ⊥) → P (suc (lowest (λ i. test (suc i)) n))) → P (lowest test (suc n))
unfolding lowest
lowest_by_lem test n P here later = go (test 0) refl
  where
    go : (b : Bool) → test 0 ≡ b → P (elim b [ true ↦ 0 | false ↦ suc (lowest (λ i. test (suc i)) n) ])
    go true e = here (true_test (test 0) e)
    go false e = later (λ t. subst T e t)

-- it is below the bound, or the bound
pub lowest-most : (test : ℕ → Bool) (n : ℕ) → lowest test n ≤ n
unfolding lowest
lowest-most test zero = le_refl 0
lowest-most test (suc n) = let rest = lowest-most (λ i. test (suc i)) n in lowest_by_lem test n (λ k. k ≤ suc n) (λ t. omega arith) (λ f. omega arith)

-- below the bound it passes
pub lowest_passes : (test : ℕ → Bool) (n : ℕ) → lowest test n < n → T (test (lowest test n))
lowest_passes test zero h = absurd (omega arith)
lowest_passes test (suc n) h = lowest_by_lem test n (λ k. k < suc n → T (test k)) (λ t l. t) (λ f l. lowest_passes (λ i. test (suc i)) n (omega arith)) h

-- none below it passes
pub lowest_before : (test : ℕ → Bool) (n i : ℕ) → i < lowest test n → T (test i) → ⊥
unfolding lowest
lowest_before test zero i h t = omega arith
lowest_before test (suc n) zero h t = lowest_by_lem test n (λ k. 0 < k → ⊥) (λ u l. omega arith) (λ f l. f t) h
lowest_before test (suc n) (suc i) h t =
    lowest_by_lem test n (λ k. suc i < k → ⊥) (λ u l. omega arith) (λ f l. lowest_before (λ j. test (suc j)) n i (omega arith) t) h

-- so it is at most any number that passes
pub lowest-at_most : (test : ℕ → Bool) (n i : ℕ) → T (test i) → lowest test n ≤ i
lowest-at_most test n i t = go (dec_lt i (lowest test n))
  where
    go : Dec (i < lowest test n) → lowest test n ≤ i
    go (yes l) = absurd (lowest_before test n i l t)
    go (no g) = omega arith

-- a number of which these three hold is the lowest
pub lowest_is : (test : ℕ → Bool) (n r : ℕ) → r ≤ n → (r < n → T (test r)) → ((i : ℕ) → i < r → T (test i) → ⊥) → lowest test n ≡ r
lowest_is test n r most passes before = go (dec_lt (lowest test n) r) (dec_lt r (lowest test n))
  where
    go : Dec (lowest test n < r) → Dec (r < lowest test n) → lowest test n ≡ r
    go (yes l) g = absurd (before (lowest test n) l (lowest_passes test n (omega arith)))
    go (no l) (yes g) = absurd (lowest_before test n r g (passes (omega (arith, lowest-most test n))))
    go (no l) (no g) = omega arith

-- where none below the bound passes it is the bound
pub lowest-none : (test : ℕ → Bool) (n : ℕ) → ((i : ℕ) → i < n → T (test i) → ⊥) → lowest test n ≡ n
lowest-none test n none = lowest_is test n n (le_refl n) (λ h. absurd (omega arith)) none

-- one that passes and is the only one is the lowest
pub lowest_only : (test : ℕ → Bool) (n k : ℕ) → k < n → T (test k) → ((i : ℕ) → T (test i) → i ≡ k) → lowest test n ≡ k
lowest_only test n k h t only = lowest_is test n k (omega arith) (λ l. t) (λ i l u. omega (arith, only i u))

-- tests that say the same below the bound have the same lowest
pub lowest_same : (a b : ℕ → Bool) (n : ℕ) → ((i : ℕ) → i < n → (T (a i) → T (b i)) × (T (b i) → T (a i))) → lowest a n ≡ lowest b n
lowest_same a b n same =
    lowest_is a n (lowest b n) (lowest-most b n) (λ h. (same (lowest b n) h).1 (lowest_passes b n h))
    (λ i h t. lowest_before b n i h ((same i (omega (arith, lowest-most b n))).0 t))

-- the lowest that passes one of two tests: the lowest by the second, below the lowest by the first
pub lowest_either : (a b : ℕ → Bool) (n : ℕ) → lowest (λ i. a i || b i) n ≡ lowest b (lowest a n)
lowest_either a b n = lowest_is (λ i. a i || b i) n r (omega (arith, most, lowest-most a n)) passes before
  where
    r : ℕ
    r = lowest b (lowest a n)

    most : r ≤ lowest a n
    most = lowest-most b (lowest a n)

    passes : r < n → T (a r || b r)
    passes h = (either_holds (a r) (b r)).1 (go (dec_lt r (lowest a n)))
      where
        go : Dec (r < lowest a n) → T (a r) ⊎ T (b r)
        go (yes l) = inr (lowest_passes b (lowest a n) l)
        go (no l) =
            let e : r ≡ lowest a n = omega (arith, most) in
            inl (subst (λ (k : ℕ). T (a k)) (sym e) (lowest_passes a n (omega arith)))

    before : (i : ℕ) → i < r → T (a i || b i) → ⊥
    before i h t = ⊎_elim (lowest_before a n i (omega (arith, most))) (lowest_before b (lowest a n) i h) ((either_holds (a i) (b i)).0 t)
