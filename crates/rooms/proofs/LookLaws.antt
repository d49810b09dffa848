-- Laws of what a look leaves of rooms. Assumes nothing.
use mathlib.Core.Path.{◌≡◌, refl, sym, subst}
use mathlib.Core.Bool.{Bool, true, false}
use mathlib.Core.List.{List}
use Prim.Native.Nat.{ℕ}
use Rattle.sets.proofs.Unique.{one-result}
use Rattle.steps.specs.Shrinking.{Look, dead, alive}
use Rattle.rooms.specs.Held.{Held, with_box}
use Rattle.rooms.specs.Looks.{AfterLook, Leaves}

-- a look that is dead leaves one answer, and one that is alive one answer and one box; so where a dead one leaves the rooms as they were, two that it leaves are the same
pub after_unique : (l : Look) (before : Held) (rest : List ℕ) {r s : Bool} {after last : Held} → AfterLook (λ _. false) true l r after rest → AfterLook (λ _. false) true l s last rest
    → (r ≡ false → after ≡ before) → (s ≡ false → last ≡ before) → (r ≡ s) × (after ≡ last)
after_unique (dead place) before rest p q f g = (one-result p q, one-result (f p) (g q))
after_unique (alive box) before rest p q f g = (one-result p.0 q.0, one-result p.1 q.1)

module _ {A : Type 0} (look : ℕ → A → List ℕ → Look) (x : A) (before : Held) where
  -- what a dead look leaves
  pub leaves-dead : {after : Held} → ((place : ℕ) → look place x before.box ≡ dead place) → Leaves look x before false after
  leaves-dead {after} e = record { by = λ place. subst (λ (l : Look). AfterLook (λ _. false) true l false after before.rest) (sym (e place)) refl }

  -- what a look that is alive leaves: its box
  pub leaves-box : {box : List ℕ} {after : Held} → ((place : ℕ) → look place x before.box ≡ alive box) → after ≡ with_box box before → Leaves look x before true after
  leaves-box {box} {after} e parts = record { by = λ place. subst (λ (l : Look). AfterLook (λ _. false) true l true after before.rest) (sym (e place)) (refl, parts) }

  -- so it is where it changes nothing
  pub leaves_same : ((place : ℕ) → look place x before.box ≡ alive before.box) → Leaves look x before true before
  leaves_same e = leaves-box e refl
