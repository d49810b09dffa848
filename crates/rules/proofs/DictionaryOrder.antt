-- Laws of dictionary order: the first difference decides, `first_difference`; of two lists of one length, one is earlier or neither is, `not_earlier-exactly`; and a file has one first
-- plan at most. Assumes nothing.
use mathlib.Core.Path.{◌≡◌, refl, sym, ap₂, ◌∙◌, subst}
use mathlib.Core.List.{List, [], ◌∷◌}
use mathlib.Core.Logic.{◌↔◌, ◌⊎◌, inl, inr, ⊎_map}
use Prim.Native.Nat.{ℕ, zero, suc, ◌<◌}
use native.Mathlib.Decide.{dec_lt, ℕ_discrete}
use native.Mathlib.Omega.{arith}
use lib.ListN.{length, get_or}
use Rattle.rules.specs.Rules.{File}
use Rattle.rules.specs.Meaning.{Before, NotEarlier, FirstPlan}

-- up to index i the two lists are the same, and there the first has the smaller number
pub record DifferAt (i : ℕ) (a b : List ℕ) : Type 0 where
  pub within : i < length a
  pub same : (j : ℕ) → j < i → get_or a j 0 ≡ get_or b j 0
  pub smaller : get_or a i 0 < get_or b i 0

-- of two lists of one length the first is earlier exactly if it has the smaller number at the first index where they differ
pub first_difference : (a b : List ℕ) → length a ≡ length b → Before a b ↔ ((i : ℕ) × DifferAt i a b)
first_difference [] bs same = (λ h. absurd h, λ d. absurd (omega (arith, d.1.within)))
first_difference (x ∷ xs) [] same = absurd (omega arith)
first_difference (x ∷ xs) (y ∷ ys) same = (forth (first_difference xs ys (omega arith)).0, back (first_difference xs ys (omega arith)).1)
  where
    forth : (Before xs ys → (i : ℕ) × DifferAt i xs ys) → Before (x ∷ xs) (y ∷ ys) → (i : ℕ) × DifferAt i (x ∷ xs) (y ∷ ys)
    forth rest (inl l) = (0, record { within = omega arith; same = λ j h. absurd (omega arith); smaller = l })
    forth rest (inr h) =
        let found = rest h.1 in
        (suc found.0, record { within = omega (arith, found.1.within); same = below h.0 found.1.same; smaller = found.1.smaller })
      where
        below : {i : ℕ} → x ≡ y → ((j : ℕ) → j < i → get_or xs j 0 ≡ get_or ys j 0) → (j : ℕ) → j < suc i → get_or (x ∷ xs) j 0 ≡ get_or (y ∷ ys) j 0
        below e others zero l = e
        below e others (suc j) l = others j (omega arith)

    back : ((i : ℕ) × DifferAt i xs ys → Before xs ys) → (i : ℕ) × DifferAt i (x ∷ xs) (y ∷ ys) → Before (x ∷ xs) (y ∷ ys)
    back rest (zero, d) = inl d.smaller
    back rest (suc i, d) =
        inr (d.same 0 (omega arith), rest (i, record { within = omega (arith, d.within); same = λ j h. d.same (suc j) (omega arith); smaller = d.smaller }))

-- no list comes before itself
pub before_irreflexive : (a : List ℕ) → Before a a → ⊥
before_irreflexive [] h = h
before_irreflexive (x ∷ xs) (inl l) = omega arith
before_irreflexive (x ∷ xs) (inr h) = before_irreflexive xs h.1

-- what comes before a list comes before all that this comes before
pub before_transitive : (a b c : List ℕ) → Before a b → Before b c → Before a c
before_transitive [] b c h k = absurd h
before_transitive (x ∷ xs) [] c h k = absurd h
before_transitive (x ∷ xs) (y ∷ ys) [] h k = absurd k
before_transitive (x ∷ xs) (y ∷ ys) (z ∷ zs) (inl h) (inl k) = inl (omega arith)
before_transitive (x ∷ xs) (y ∷ ys) (z ∷ zs) (inl h) (inr k) = inl (omega arith)
before_transitive (x ∷ xs) (y ∷ ys) (z ∷ zs) (inr h) (inl k) = inl (omega arith)
before_transitive (x ∷ xs) (y ∷ ys) (z ∷ zs) (inr h) (inr k) = inr (h.0 ∙ k.0, before_transitive xs ys zs h.1 k.1)

-- two lists of the same length are equal, or one comes before the other
pub before_total : (a b : List ℕ) → length a ≡ length b → (a ≡ b) ⊎ (Before a b ⊎ Before b a)
before_total [] [] same = inl refl
before_total [] (y ∷ ys) same = absurd (omega arith)
before_total (x ∷ xs) [] same = absurd (omega arith)
before_total (x ∷ xs) (y ∷ ys) same = heads (ℕ_discrete x y) (dec_lt x y) (before_total xs ys (omega arith))
  where
    heads : Dec (x ≡ y) → Dec (x < y) → (xs ≡ ys) ⊎ (Before xs ys ⊎ Before ys xs)
        → (x ∷ xs ≡ y ∷ ys) ⊎ (Before (x ∷ xs) (y ∷ ys) ⊎ Before (y ∷ ys) (x ∷ xs))
    heads (yes e) lower rest = ⊎_map (ap₂ ◌∷◌ e) (⊎_map (λ h. inr (e, h)) (λ h. inr (sym e, h))) rest
    heads (no apart) (yes lower) rest = inr (inl (inl lower))
    heads (no apart) (no higher) rest = inr (inr (inl (omega arith)))

-- so one that is not earlier is the same or comes behind
pub not_earlier-exactly : (a b : List ℕ) → length a ≡ length b → NotEarlier b a ↔ (Before b a → ⊥)
not_earlier-exactly a b same = (forth, λ not. back not (before_total a b same))
  where
    forth : NotEarlier b a → Before b a → ⊥
    forth (inl e) h = before_irreflexive a (subst (λ (c : List ℕ). Before c a) (sym e) h)
    forth (inr k) h = before_irreflexive a (before_transitive a b a k h)

    back : (Before b a → ⊥) → (a ≡ b) ⊎ (Before a b ⊎ Before b a) → NotEarlier b a
    back not (inl e) = inl e
    back not (inr (inl h)) = inr h
    back not (inr (inr h)) = absurd (not h)

-- and two lists of which neither is earlier are the same
pub neither_earlier : (a b : List ℕ) → NotEarlier b a → NotEarlier a b → a ≡ b
neither_earlier a b (inl e) k = e
neither_earlier a b (inr h) (inl e) = sym e
neither_earlier a b (inr h) (inr k) = absurd (before_irreflexive a (before_transitive a b a h k))

-- a file has one first plan at most
pub first-plan_unique : (file : File) (a b : List ℕ) → FirstPlan file a → FirstPlan file b → a ≡ b
first-plan_unique file a b f g = neither_earlier a b (f.1 b g.0) (g.1 a f.0)
