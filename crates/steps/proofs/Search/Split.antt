-- What a split comes to: the first half's reply, or after NONE the other half's. Assumes nothing.
use mathlib.Core.Path.{◌≡◌, refl, sym, subst}
use mathlib.Core.Bool.{Bool, true, false}
use Prim.Native.Nat.{ℕ, ◌≤◌, ◌<◌}
use native.Mathlib.Decide.{ℕ_discrete}
use lib.Dec.{leb}
use borrow.Author.Tests.{eq-eqb, ne_eqb, leb-true, leb-false}
use Rattle.steps.specs.Shrinking.{if_test}
use Rattle.steps.specs.Reply.{Reply, undecided}
use Rattle.steps.specs.Search.{if_none}

-- a split, after these splits and dead ends: UNDECIDED where the allowance is spent, else the first half, and after NONE the other
abbrev pub split : (ℕ → Bool) → ℕ → ℕ → Reply → (ℕ → ℕ → Reply) → Reply
split spent s d first later = if_test (spent s) (undecided s d) λ _. if_none first later

module _ (first : Reply) (later : ℕ → ℕ → Reply) where
  -- NONE goes on with the counts so far
  pub none_later : first.number ≡ 1 → if_none first later ≡ later first.splits first.dead_ends
  none_later e = rw (eq-eqb first.number 1 e, if_none)

  -- any other reply stays
  pub other_stays : (first.number ≡ 1 → ⊥) → if_none first later ≡ first
  other_stays ne = rw (ne_eqb first.number 1 ne, if_none)

  -- what holds of the reply that follows NONE, and of any other that stays, holds of what comes after
  pub after_none : (P : Reply → Type 0) → (first.number ≡ 1 → P (later first.splits first.dead_ends)) → ((first.number ≡ 1 → ⊥) → P first)
      → P (if_none first later)
  after_none P follows stays = go (ℕ_discrete first.number 1)
    where
      go : Dec (first.number ≡ 1) → P (if_none first later)
      go (yes e) = subst P (sym (none_later e)) (follows e)
      go (no ne) = subst P (sym (other_stays ne)) (stays ne)

  -- what holds where the allowance is used up, and of what comes after where it is not, holds of a split
  pub by_allowance : (P : Reply → Type 0) (allowed s d : ℕ) → (allowed ≤ s → P (undecided s d)) → (s < allowed → P (if_none first later))
      → P (split (leb allowed) s d first later)
  by_allowance P allowed s d spent goes = go (leb allowed s) refl
    where
      go : (t : Bool) → leb allowed s ≡ t → P (if_test t (undecided s d) (λ _. if_none first later))
      go true e = spent (leb-true allowed s e)
      go false e = goes (leb-false allowed s e)
