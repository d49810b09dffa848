-- The lowest index of a named position that passes a test, position by position. Assumes nothing.
use mathlib.Core.Path.{◌≡◌, refl, sym, ap, ◌∙◌, subst}
use mathlib.Core.Logic.Iff
use mathlib.Core.Logic.{◌↔◌}
use mathlib.Core.Bool.{Bool, true, false, ◌&&◌}
use mathlib.Core.List.{List, [], ◌∷◌, Memᴰ}
use Prim.Native.Nat.{ℕ, ◌+◌, ◌-◌, ◌≤◌, ◌<◌}
use native.Mathlib.Omega.{arith}
use lib.Dec.{T, eqb}
use Rattle.lists.specs.Lists.{Some}
use Rattle.lists.specs.Lowest.{lowest}
use Rattle.lists.proofs.ListLaws.{some_of_listed, listed_of_some}
use Rattle.lists.proofs.LowestLaws.{lowest_either, lowest-none, lowest_only}
use Rattle.lists.proofs.TestLaws.{true_test, both_hold, eq_holds}
use Rattle.steps.specs.Shrinking.{some_of}
use Rattle.steps.proofs.Looks.LiveTests.{some_of_holds}

-- whether p is the position with an index, and passes the test
abbrev pub named_at : (ℕ → Bool) → ℕ → ℕ → Bool
named_at test i p = eqb p (i + 1) && test p

-- the lowest index, below a bound, of one of these positions that passes
abbrev pub lowest_of : (ℕ → Bool) → List ℕ → ℕ → ℕ
lowest_of test ps bound = lowest (λ i. some_of (named_at test i) ps) bound

-- ---- one named position

-- the test of a position at an index
named_at_lem : (test : ℕ → Bool) (i p : ℕ) → T (named_at test i p) ↔ ((p ≡ i + 1) × T (test p))
named_at_lem test i p = Iff.trans (both_hold (eqb p (i + 1)) (test p)) (Iff.and (eq_holds p (i + 1)) Iff.rfl)

-- one of some positions has the index and passes exactly if the position with that index is listed and passes
pub named_some : (test : ℕ → Bool) (ps : List ℕ) (i : ℕ) → T (some_of (named_at test i) ps) ↔ (Memᴰ (i + 1) ps × T (test (i + 1)))
named_some test ps i = Iff.trans (some_of_holds (named_at test i) ps) (forth, λ h. some_of_listed At h.0 ((named_at_lem test i (i + 1)).1 (refl, h.1)))
  where
    At : ℕ → Type 0
    At p = T (named_at test i p)

    forth : Some At ps → Memᴰ (i + 1) ps × T (test (i + 1))
    forth s =
        let found = listed_of_some At ps s in
        let both = (named_at_lem test i found.0).0 found.2 in
        (subst (λ (p : ℕ). Memᴰ p ps) both.0 found.1, subst (λ (p : ℕ). T (test p)) both.0 both.1)

module _ (test : ℕ → Bool) (p low : ℕ) (first : 1 ≤ p) {passes : Bool} (is : passes ≡ test p) where
  -- where it passes, and its index is lower: its index
  pub named-found : p - 1 < low → passes ≡ true → lowest (λ k. named_at test k p) low ≡ p - 1
  named-found less e =
      lowest_only (λ k. named_at test k p) low (p - 1) less ((named_at_lem test (p - 1) p).1 (omega arith, true_test (test p) (sym is ∙ e)))
      (λ k u. omega (arith, ((named_at_lem test k p).0 u).0))

  -- where it does not pass, or its index is not lower: the bound
  pub passed_over : (p - 1 < low → T (test p) → ⊥) → lowest (λ k. named_at test k p) low ≡ low
  passed_over none = lowest-none (λ k. named_at test k p) low (λ k l u. let both = (named_at_lem test k p).0 u in none (omega (arith, both.0)) both.1)

  -- where it fails: the bound
  pub named-failed : passes ≡ false → lowest (λ k. named_at test k p) low ≡ low
  named-failed e = passed_over (λ l t. subst T (sym is ∙ e) t)

-- so it is where its index is not lower
pub named-higher : (test : ℕ → Bool) (p low : ℕ) → 1 ≤ p → low ≤ p - 1 → lowest (λ k. named_at test k p) low ≡ low
named-higher test p low first high = passed_over test p low first {passes = test p} refl (λ l t. omega arith)

-- ---- one after the other

module _ (test : ℕ → Bool) {left : List ℕ} (low : ℕ) where
  -- where none is left: as low as it is
  pub lowest_end : left ≡ [] → lowest_of test left low ≡ low
  unfolding some_of
  lowest_end none = ap (λ (ps : List ℕ). lowest_of test ps low) none ∙ lowest-none (λ k. false) low (λ k l t. t)

  -- else: the lowest by the first, and then by those behind it
  pub lowest_next : {p : ℕ} {more : List ℕ} → left ≡ p ∷ more → {next : ℕ} → lowest (λ k. named_at test k p) low ≡ next → lowest_of test left low ≡ lowest_of test more next
  unfolding some_of
  lowest_next {p} {more} first e =
      ap (λ (ps : List ℕ). lowest_of test ps low) first ∙ lowest_either (λ k. named_at test k p) (λ k. some_of (named_at test k) more) low ∙ ap (lowest_of test more) e
