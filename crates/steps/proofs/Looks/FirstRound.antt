-- A round that finds a field dead finds it dead by the fields up to it alone: `round-up_to`. Assumes nothing.
use mathlib.Core.Path.{◌≡◌, refl, sym, ap, ◌∙◌}
use mathlib.Core.List.{List, [], ◌∷◌}
use Prim.Native.Nat.{ℕ, ◌+◌, ◌≤◌}
use native.Mathlib.Omega.{arith}
use lib.ListN.{length}
use Rattle.lists.proofs.ListLaws.{every_with_some}
use Rattle.rules.specs.Rules.{Rule, Field}
use Rattle.rules.specs.Writing.{written_rule, placed}
use Rattle.rules.specs.UpTo.{fields_up_to}
use Rattle.rules.proofs.Writing.UpToLaws.{placed-from, up_to_next}
use Rattle.steps.specs.Shrinking.{Look, dead, alive, in_turn, look_field, round}
use Rattle.steps.proofs.Looks.InTurn.{dead-not-alive, in_turn_then, in_turn-dead}
use Rattle.steps.proofs.Looks.DeadField.{round_field}

-- the field that is found dead does not stand before those that are gone through
dead-from : (at : ℕ) (rules : List Rule) (box : List ℕ) (place : ℕ) → round (placed at rules) box ≡ dead place → at ≤ place
dead-from at rules box place e =
    let found = every_with_some (λ f. at ≤ f.place) (λ f. f.place ≡ place) (placed at rules) (placed-from at rules) (round_field (placed at rules) box place e) in
    omega (arith, found.2, found.3)

-- fields from a place on
pub round-up_to : (place at : ℕ) (rules : List Rule) (box : List ℕ) → round (placed at rules) box ≡ dead place → round (fields_up_to place (placed at rules)) box ≡ dead place
unfolding placed in_turn
round-up_to place at [] box e = absurd (dead-not-alive (alive box) place box e refl)
round-up_to place at (r ∷ rs) box e = ap (λ (fields : List Field). round fields box) (up_to_next place here (placed next rs) (dead-from at (r ∷ rs) box place e)) ∙ go (round-up_to place next rs) (look_field here box) refl
  where
    next : ℕ
    next = at + length (written_rule r)

    here : Field
    here = record { place = at; rule = r }

    go : ((b : List ℕ) → round (placed next rs) b ≡ dead place → round (fields_up_to place (placed next rs)) b ≡ dead place) → (l : Look) → look_field here box ≡ l
        → round (here ∷ fields_up_to place (placed next rs)) box ≡ dead place
    go rest (dead p) d = in_turn-dead look_field here (fields_up_to place (placed next rs)) box p d ∙ sym (in_turn-dead look_field here (placed next rs) box p d) ∙ e
    go rest (alive b) a = in_turn_then look_field here (fields_up_to place (placed next rs)) box b a ∙ rest b (sym (in_turn_then look_field here (placed next rs) box b a) ∙ e)
