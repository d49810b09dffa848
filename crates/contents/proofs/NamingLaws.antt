-- A position is named twice exactly if one is marked already when it comes, with a mark on each that came before: `twice-by_marks`. The search for it in turn is `Naming`. Assumes nothing.
use mathlib.Core.Path.{◌≡◌, refl, sym, ap, ap₂, ◌∙◌, subst}
use mathlib.Core.Bool.{Bool, true, false, ◌||◌}
use mathlib.Core.List.{List, [], ◌∷◌}
use mathlib.Core.Logic.{inl, inr, ⊎_elim}
use Prim.Native.Nat.{ℕ, ◌+◌, ◌-◌, ◌≤◌, ◌<◌}
use native.Mathlib.Omega.{arith}
use lib.Dec.{eqb}
use lib.ListN.{length, get_or, drop}
use Rattle.std.proofs.lemmas.List.{drop_all}
use Rattle.lists.proofs.TakeDrop.{drop_next}
use Rattle.lists.proofs.ListLaws.{every_map}
use Rattle.lists.proofs.TestLaws.{test_same, either_holds, eq_holds}
use Rattle.sets.specs.Marks.{is_marked, with_mark}
use Rattle.sets.proofs.MarkLaws.{none_marked, marked_was, marked_now}
use Rattle.rules.specs.Contents.{PositionsFit}
use Rattle.rules.specs.Reading.{fault_if, positions_fault, named, named_twice, twice_fault}
use Rattle.rules.specs.Writing.{PositionFits}
use Rattle.rules.proofs.Reading.FaultlessLaws.{positions_fault-none}

-- whether one of the positions is marked
any_marked : ℕ → List ℕ → Bool
any_marked seen [] = false
any_marked seen (p ∷ ps) = is_marked (p - 1) seen || any_marked seen ps

-- whether one of the positions is marked when it comes, where each that comes is marked
pub twice_from : ℕ → List ℕ → Bool
twice_from seen [] = false
twice_from seen (p ∷ ps) = is_marked (p - 1) seen || twice_from (with_mark (p - 1) seen) ps

-- ---- marks and names

-- tests of which one holds, in another order
in_turn_lem : (a b c d : Bool) → ((a || b) || (c || d)) ≡ ((a || c) || (b || d))
in_turn_lem true b c d = refl
in_turn_lem false true true d = refl
in_turn_lem false true false d = refl
in_turn_lem false false c d = refl

-- and with one of them apart
own_first : (a b c d : Bool) → (a || ((b || c) || d)) ≡ ((a || c) || (b || d))
own_first true b c d = refl
own_first false true true d = refl
own_first false true false d = refl
own_first false false c d = refl

-- with one mark more, a position is marked if it is that one, or was marked
marked_more : (p q seen : ℕ) → 1 ≤ p → 1 ≤ q → is_marked (q - 1) (with_mark (p - 1) seen) ≡ (eqb q p || is_marked (q - 1) seen)
marked_more p q seen some other =
    test_same (is_marked (q - 1) (with_mark (p - 1) seen)) (eqb q p || is_marked (q - 1) seen)
    (λ t. (either_holds (eqb q p) (is_marked (q - 1) seen)).1 (⊎_elim (λ e. inl ((eq_holds q p).1 (omega arith))) inr (marked_was (q - 1) (p - 1) seen t)))
    (λ t. marked_now (q - 1) (p - 1) seen (⊎_elim (λ e. inl (ap (λ (k : ℕ). k - 1) ((eq_holds q p).0 e))) inr ((either_holds (eqb q p) (is_marked (q - 1) seen)).0 t)))

-- so one of some is marked if they name that one, or one of them was marked
any_more : (p seen : ℕ) (ps : List ℕ) → 1 ≤ p → PositionsFit 64 ps → any_marked (with_mark (p - 1) seen) ps ≡ (named p ps || any_marked seen ps)
unfolding any_marked named
any_more p seen [] some fit = refl
any_more p seen (q ∷ qs) some fit = ap₂ ◌||◌ (marked_more p q seen some fit.0.0) (any_more p seen qs some fit.1) ∙ in_turn_lem (eqb q p) (is_marked (q - 1) seen) (named p qs) (any_marked seen qs)

-- without a mark none is
any_none : (ps : List ℕ) → any_marked 0 ps ≡ false
unfolding any_marked
any_none [] = refl
any_none (p ∷ ps) = ap₂ ◌||◌ (test_same (is_marked (p - 1) 0) false (none_marked (p - 1)) absurd) (any_none ps)

-- in turn: one is marked when it comes if one was marked at first, or is named twice
twice-from : (seen : ℕ) (ps : List ℕ) → PositionsFit 64 ps → twice_from seen ps ≡ (any_marked seen ps || named_twice ps)
unfolding any_marked named_twice twice_from
twice-from seen [] fit = refl
twice-from seen (p ∷ ps) fit =
    ap (λ (b : Bool). is_marked (p - 1) seen || b) (twice-from (with_mark (p - 1) seen) ps fit.1 ∙ ap (λ (b : Bool). b || named_twice ps) (any_more p seen ps fit.0.0 fit.1))
    ∙ own_first (is_marked (p - 1) seen) (named p ps) (any_marked seen ps) (named_twice ps)

-- without a mark at first, it is named twice
pub twice-by_marks : (ps : List ℕ) → PositionsFit 64 ps → twice_from 0 ps ≡ named_twice ps
twice-by_marks ps fit = twice-from 0 ps fit ∙ ap (λ (b : Bool). b || named_twice ps) (any_none ps)

-- ---- the search in turn

-- the search has come to `at`, with marks on the positions before it: those from there on decide
pub record Naming (ps : List ℕ) (seen at : ℕ) : Type 0 where
  pub fit : PositionsFit 64 (drop at ps)
  pub fault : twice_fault ps ≡ fault_if (twice_from seen (drop at ps)) 36 (λ _. 0)

-- at first none is marked, and all decide
pub naming-starts : (ps : List ℕ) {seen : ℕ} → PositionsFit 64 ps → seen ≡ 0 → Naming ps seen 0
unfolding twice_fault
naming-starts ps fit none = record { fit = fit; fault = ap (λ (b : Bool). fault_if b 36 (λ _. 0)) (sym (twice-by_marks ps fit) ∙ ap (λ (marks : ℕ). twice_from marks ps) (sym none)) }

-- at the end none was named twice
pub naming_ends : {ps : List ℕ} {seen at : ℕ} → Naming ps seen at → length ps ≤ at → twice_fault ps ≡ 0
unfolding twice_from
naming_ends {ps} {seen} {at} here past = here.fault ∙ ap (λ (qs : List ℕ). fault_if (twice_from seen qs) 36 (λ _. 0)) (drop_all at ps past)

module _ {ps : List ℕ} {seen at : ℕ} (here : Naming ps seen at) (more : at < length ps) where
  rest_fits : PositionFits 64 (get_or ps at 0) × PositionsFit 64 (drop (at + 1) ps)
  rest_fits = subst (PositionsFit 64) (drop_next ps at more) here.fit

  -- the position there is 1 to 64
  pub naming_fits : PositionFits 64 (get_or ps at 0)
  naming_fits = rest_fits.0

  -- the fault of it and of those behind it, by whether it is marked
  abbrev fault_by : Bool → ℕ
  fault_by marked = fault_if (marked || twice_from (with_mark (get_or ps at 0 - 1) seen) (drop (at + 1) ps)) 36 (λ _. 0)

  fault-here : twice_fault ps ≡ fault_by (is_marked (get_or ps at 0 - 1) seen)
  unfolding twice_from
  fault-here = here.fault ∙ ap (λ (qs : List ℕ). fault_if (twice_from seen qs) 36 (λ _. 0)) (drop_next ps at more)

  -- where it is marked, it is named twice
  pub naming-found : is_marked (get_or ps at 0 - 1) seen ≡ true → twice_fault ps ≡ 36
  naming-found marked = fault-here ∙ ap fault_by marked

  -- where it is not, the search goes on with a mark on it
  pub naming_passes : {seen' : ℕ} → is_marked (get_or ps at 0 - 1) seen ≡ false → seen' ≡ with_mark (get_or ps at 0 - 1) seen → Naming ps seen' (at + 1)
  naming_passes unmarked more-marks = record {
    fit = rest_fits.1;
    fault = fault-here ∙ ap fault_by unmarked ∙ ap (λ (marks : ℕ). fault_if (twice_from marks (drop (at + 1) ps)) 36 (λ _. 0)) (sym more-marks);
  }

-- ---- positions without a fault

-- they are 1 to 64, where v is at most 64
pub positions-there : (v : ℕ) (ps : List ℕ) → v ≤ 64 → positions_fault v ps ≡ 0 → PositionsFit 64 ps
positions-there v ps few none = every_map (PositionFits v) (PositionFits 64) ps (λ p fits. (fits.0, omega arith)) ((positions_fault-none v ps).0 none)
