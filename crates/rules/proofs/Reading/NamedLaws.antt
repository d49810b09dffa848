-- Positions that are named: `named_listed`; and one that is named twice, in plain words: `twice-exactly`. Assumes nothing.
use mathlib.Core.Path.{◌≡◌, sym}
use mathlib.Core.List.Memᴰ
use mathlib.Core.List.{List, [], ◌∷◌, Memᴰ}
use mathlib.Core.Logic.{◌↔◌, ◌⊎◌, inl, inr, ⊎_elim}
use Prim.Native.Nat.{ℕ, zero, suc, ◌<◌}
use native.Mathlib.Omega.{arith}
use lib.Dec.{T, eqb}
use lib.ListN.{length, get_or}
use Rattle.lists.proofs.TestLaws.{either_holds, eq_holds}
use Rattle.rules.specs.Reading.{named, named_twice}

-- a position is named exactly if it is listed
pub named_listed : (p : ℕ) (ps : List ℕ) → T (named p ps) ↔ Memᴰ p ps
unfolding named
named_listed p [] = (absurd, λ t. Memᴰ.not-nil t)
named_listed p (q ∷ qs) =
    let either = either_holds (eqb q p) (named p qs) in
    let rest = named_listed p qs in (
      λ t. ⊎_elim (λ e. Memᴰ.head (sym ((eq_holds q p).0 e))) (λ u. Memᴰ.tail (rest.0 u)) (either.0 t),
      λ t. either.1 (⊎_elim (λ e. inl ((eq_holds q p).1 (sym e))) (λ u. inr (rest.1 u)) (Memᴰ.cases_cons t)),
    )

-- it is listed exactly if it stands at some index
listed_at : (p : ℕ) (ps : List ℕ) → Memᴰ p ps ↔ ((i : ℕ) × (i < length ps) × (p ≡ get_or ps i 0))
listed_at p [] = (λ t. absurd (Memᴰ.not-nil t), λ h. absurd (omega (arith, h.1)))
listed_at p (q ∷ qs) = (forth (listed_at p qs).0, back (listed_at p qs).1)
  where
    At : List ℕ → Type 0
    At l = (i : ℕ) × (i < length l) × (p ≡ get_or l i 0)

    forth : (Memᴰ p qs → At qs) → Memᴰ p (q ∷ qs) → At (q ∷ qs)
    forth rest t = ⊎_elim (λ e. (0, omega arith, e)) (λ u. let found = rest u in (suc found.0, omega (arith, found.1), found.2)) (Memᴰ.cases_cons t)

    back : (At qs → Memᴰ p qs) → At (q ∷ qs) → Memᴰ p (q ∷ qs)
    back rest (zero, l, e) = Memᴰ.head e
    back rest (suc i, l, e) = Memᴰ.tail (rest (i, omega arith, e))

-- the same position stands at two indices
abbrev pub StandsTwice : List ℕ → Type 0
StandsTwice ps = (i : ℕ) × (j : ℕ) × (i < j) × (j < length ps) × (get_or ps i 0 ≡ get_or ps j 0)

-- a position is named twice exactly if one stands at two indices
pub twice-exactly : (ps : List ℕ) → T (named_twice ps) ↔ StandsTwice ps
unfolding named_twice
twice-exactly [] = (absurd, λ h. absurd (omega (arith, h.3)))
twice-exactly (p ∷ ps) = (λ t. forth (twice-exactly ps).0 ((either_holds (named p ps) (named_twice ps)).0 t), λ h. (either_holds (named p ps) (named_twice ps)).1 (back (twice-exactly ps).1 h))
  where
    forth : (T (named_twice ps) → StandsTwice ps) → T (named p ps) ⊎ T (named_twice ps) → StandsTwice (p ∷ ps)
    forth rest (inl t) = let found = (listed_at p ps).0 ((named_listed p ps).0 t) in (0, suc found.0, omega arith, omega (arith, found.1), found.2)
    forth rest (inr t) = let found = rest t in (suc found.0, suc found.1, omega (arith, found.2), omega (arith, found.3), found.4)

    back : (StandsTwice ps → T (named_twice ps)) → StandsTwice (p ∷ ps) → T (named p ps) ⊎ T (named_twice ps)
    back rest (zero, zero, l, h, e) = absurd (omega arith)
    back rest (zero, suc j, l, h, e) = inl ((named_listed p ps).1 ((listed_at p ps).1 (j, omega arith, e)))
    back rest (suc i, zero, l, h, e) = absurd (omega arith)
    back rest (suc i, suc j, l, h, e) = inr (rest (i, j, omega arith, omega arith, e))
