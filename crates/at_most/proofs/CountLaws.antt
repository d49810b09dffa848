-- The rooms inside a set and those that meet it, counted position by position: `CountsLeft`, from `counts_start` over `counts_next` to `counts_end`. Assumes nothing.
use mathlib.Core.Path.{◌≡◌, sym, ap, ◌∙◌}
use mathlib.Core.Logic.{◌⊎◌, inl, inr}
use mathlib.Core.Bool.{Bool, true, false}
use mathlib.Core.List.{List, [], ◌∷◌}
use Prim.Native.Nat.{ℕ, ◌+◌, ◌≤◌}
use native.Mathlib.Omega.{arith}
use Rattle.sets.specs.Sets.{inside, meets}
use Rattle.lists.specs.Passing.{passing}
use Rattle.lists.proofs.PassingLaws.{passing_one, passing-none}
use Rattle.steps.specs.Boxes.{room_at}
use Rattle.steps.specs.Shrinking.{inside_count, meeting_count}

-- what is found after one more: one more where the test holds, else as many as before
abbrev pub Stepped : Bool → ℕ → ℕ → Type 0
Stepped test found next = ((test ≡ true) × (next ≡ found + 1)) ⊎ ((test ≡ false) × (next ≡ found))

-- one that is counted is found or left
counted_one : (test : ℕ → Bool) (p : ℕ) (ps : List ℕ) (found next : ℕ) → Stepped (test p) found next → found + passing test (p ∷ ps) ≡ next + passing test ps
counted_one test p ps found next (inl (e, is)) = omega (arith, passing_one test p ps e)
counted_one test p ps found next (inr (e, is)) = omega (arith, passing-none test p ps e)

-- so it is never more than one
step-most : (test : Bool) (found next : ℕ) → Stepped test found next → next ≤ found + 1
step-most test found next (inl (e, is)) = omega arith
step-most test found next (inr (e, is)) = omega arith

-- the rooms of i positions were counted: what those that are left add to both counts makes up the whole
pub record CountsLeft (all left box : List ℕ) (m i inner outer : ℕ) : Type 0 where
  pub few : (inner ≤ i) × (outer ≤ i)
  pub insides : inner + inside_count m left box ≡ inside_count m all box
  pub meetings : outer + meeting_count m left box ≡ meeting_count m all box

-- at the start all are left
pub counts_start : (all box : List ℕ) (m : ℕ) → CountsLeft all all box m 0 0 0
counts_start all box m = record { few = (omega arith, omega arith); insides = omega arith; meetings = omega arith }

module _ {all left box : List ℕ} {m i inner outer : ℕ} (going : CountsLeft all left box m i inner outer) where
  -- one more, by its room
  pub counts_next : {p : ℕ} {more : List ℕ} → left ≡ p ∷ more → {inner' outer' : ℕ} → Stepped (inside (room_at box p) m) inner inner' → Stepped (meets (room_at box p) m) outer outer'
      → CountsLeft all more box m (i + 1) inner' outer'
  unfolding inside_count meeting_count
  counts_next {p} {more} next {inner'} {outer'} within met = record {
    few = (omega (arith, going.few.0, step-most _ inner inner' within), omega (arith, going.few.1, step-most _ outer outer' met));
    insides = sym (ap (λ (ps : List ℕ). inner + inside_count m ps box) next ∙ counted_one (λ q. inside (room_at box q) m) p more inner inner' within) ∙ going.insides;
    meetings = sym (ap (λ (ps : List ℕ). outer + meeting_count m ps box) next ∙ counted_one (λ q. meets (room_at box q) m) p more outer outer' met) ∙ going.meetings;
  }

  -- where none is left both counts are the whole
  pub counts_end : left ≡ [] → (inner ≡ inside_count m all box) × (outer ≡ meeting_count m all box)
  unfolding inside_count meeting_count passing
  counts_end none = (
    omega (arith, ap (λ (ps : List ℕ). inside_count m ps box) none, going.insides),
    omega (arith, ap (λ (ps : List ℕ). meeting_count m ps box) none, going.meetings),
  )
