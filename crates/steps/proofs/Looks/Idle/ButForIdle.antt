-- A position is idle in a box where it is live in nothing that is not settled. Of two boxes that differ at idle positions alone (`ButForIdle`): what the laws
-- say of anything that is looked at, and that the laws of each of a list are laws of them all. Assumes nothing.
use mathlib.Core.Path.{◌≡◌, refl, sym, ap, ap₂, ◌∙◌, subst}
use mathlib.Core.Logic.{◌↔◌, inl, inr}
use mathlib.Core.Bool.{Bool, ◌&&◌}
use mathlib.Core.List.{List, [], ◌∷◌}
use Prim.Native.Nat.{ℕ, ◌-◌, ◌<◌}
use native.Mathlib.Decide.{ℕ_discrete}
use lib.Dec.{T}
use lib.ListN.{length, get_or, set}
use lib.Seq.{get_or-set_same, get_or-set_other, ext_get_or}
use Rattle.sets.specs.Sets.{inside}
use Rattle.sets.proofs.Sameness.{inside_refl}
use Rattle.lists.specs.Lists.{Some, Every}
use Rattle.lists.proofs.ListLaws.{some_of_listed, some_map, some_map_listed, every_at}
use Rattle.steps.specs.Boxes.{room_at, BoxInside, Rooms}
use Rattle.steps.specs.Shrinking.{Look, dead, alive, in_turn, all_of}
use Rattle.steps.proofs.Boxes.BoxLaws.{box-inside-length, box-inside_at, box-inside_of}
use Rattle.steps.proofs.Looks.SixLaws.{Inward}
use Rattle.steps.proofs.Looks.InTurn.{in_turn-dead}

-- ---- two boxes side by side

-- Live box p: the position p of the box is live in something that is not settled. The box c is b, but that rooms of idle positions may be smaller.
pub record ButForIdle (Live : List ℕ → ℕ → Type 0) (b c : List ℕ) : Type 0 where
  pub larger : Rooms b
  pub smaller : Rooms c
  pub inside : BoxInside c b
  pub same : (p : ℕ) → Live b p → room_at b p ≡ room_at c p

-- the rooms r and s have become r' and s': neither has changed, or they were the same and are so again
pub data SameStep (r s r' s' : ℕ) : Type 0 where
  neither : r ≡ r' → s ≡ s' → SameStep r s r' s'
  both : r ≡ s → r' ≡ s' → SameStep r s r' s'

-- so have the rooms of two boxes at every index
abbrev pub SameWay : List ℕ → List ℕ → List ℕ → List ℕ → Type 0
SameWay b c b' c' = (i : ℕ) → SameStep (get_or b i 0) (get_or c i 0) (get_or b' i 0) (get_or c' i 0)

-- a look at b and a look at c: both are dead, with the same place, or they change the boxes in the same way
pub data SameLooks (b c : List ℕ) (l m : Look) : Type 0 where
  both-dead : (place : ℕ) → l ≡ dead place → m ≡ dead place → SameLooks b c l m
  both-alive : (b' c' : List ℕ) → l ≡ alive b' → m ≡ alive c' → SameWay b c b' c' → SameLooks b c l m

-- ---- what the laws say

-- Fits v: it is made for v positions. look: the look at it. done: whether it is settled.

-- what is live in a smaller box is live in a larger one: idle positions stay idle
abbrev pub StaysIdle : (List ℕ → ℕ → Type 0) → Type 0
StaysIdle Live = (b c : List ℕ) (p : ℕ) → Rooms c → BoxInside c b → Live c p → Live b p

-- where two boxes differ at idle positions alone, what is live in the larger is live in the smaller
abbrev pub StaysLive : (ℕ → Type 0) → (List ℕ → ℕ → Type 0) → Type 0
StaysLive Fits Live = (b c : List ℕ) → Fits (length b) → ButForIdle Live b c → (p : ℕ) → Live b p → Live c p

-- it is settled in both or in neither
abbrev pub SameSettled : (ℕ → Type 0) → (List ℕ → ℕ → Type 0) → (List ℕ → Bool) → Type 0
SameSettled Fits Live done = (b c : List ℕ) → Fits (length b) → ButForIdle Live b c → done b ≡ done c

-- and looks at both find the same
abbrev pub LooksSame : (ℕ → Type 0) → (List ℕ → ℕ → Type 0) → (List ℕ → Look) → Type 0
LooksSame Fits Live look = (b c : List ℕ) → Fits (length b) → ButForIdle Live b c → SameLooks b c (look b) (look c)

-- ---- rooms that change in the same way

same_step_on : {r s r' s' r'' s'' : ℕ} → SameStep r s r' s' → SameStep r' s' r'' s'' → SameStep r s r'' s''
same_step_on (neither e f) (neither g h) = neither (e ∙ g) (f ∙ h)
same_step_on (neither e f) (both g h) = both (e ∙ g ∙ sym f) h
same_step_on (both e f) (neither g h) = both e (sym g ∙ f ∙ h)
same_step_on (both e f) (both g h) = both e h

-- the one is as it was where the other is
same_step_stays : {r s r' s' : ℕ} → SameStep r s r' s' → r' ≡ r → s' ≡ s
same_step_stays (neither e f) g = sym f
same_step_stays (both e f) g = sym f ∙ g ∙ e

same_step_turned : {r s r' s' : ℕ} → SameStep r s r' s' → SameStep s r s' r'
same_step_turned (neither e f) = neither f e
same_step_turned (both e f) = both (sym e) (sym f)

-- what holds of two rooms, and of any room with itself, holds of the rooms that they become
pub same_step_keeps : (R : ℕ → ℕ → Type 0) → ((x : ℕ) → R x x) → {r s r' s' : ℕ} → SameStep r s r' s' → R r s → R r' s'
same_step_keeps R self {r} {s} {r'} {s'} (neither e f) h = subst (R r') f (subst (λ (x : ℕ). R x s) e h)
same_step_keeps R self {r} {s} {r'} {s'} (both e f) h = subst (R r') f (self r')

-- ---- boxes that do

-- nothing has changed
pub same_way_stay : (b c : List ℕ) → SameWay b c b c
same_way_stay b c i = neither refl refl

-- the same new room comes in place of the same room
pub same_way-set : (b c : List ℕ) (i r s : ℕ) → i < length b → i < length c → get_or b i 0 ≡ get_or c i 0 → r ≡ s → SameWay b c (set b i r) (set c i s)
same_way-set b c i r s hb hc was is j = go (ℕ_discrete j i)
  where
    go : Dec (j ≡ i) → SameStep (get_or b j 0) (get_or c j 0) (get_or (set b i r) j 0) (get_or (set c i s) j 0)
    go (yes e) = rw e (both was (get_or-set_same b i r 0 hb ∙ is ∙ sym (get_or-set_same c i s 0 hc)))
    go (no apart) = neither (sym (get_or-set_other b i j r 0 apart)) (sym (get_or-set_other c i j s 0 apart))

-- looks after such a change
pub same-looks_on : {b c b' c' : List ℕ} {l m : Look} → SameWay b c b' c' → SameLooks b' c' l m → SameLooks b c l m
same-looks_on way (both-dead place e f) = both-dead place e f
same-looks_on way (both-alive b'' c'' e f on) = both-alive b'' c'' e f (λ i. same_step_on (way i) (on i))

-- the one box is as it was exactly if the other is
pub unchanged_together : (b c b' c' : List ℕ) → SameWay b c b' c' → length b' ≡ length b → length c' ≡ length c → (b' ≡ b) ↔ (c' ≡ c)
unchanged_together b c b' c' way lb lc = (
  λ e. ext_get_or 0 c' c lc (λ i l. same_step_stays (way i) (ap (λ (box : List ℕ). get_or box i 0) e)),
  λ e. ext_get_or 0 b' b lb (λ i l. same_step_stays (same_step_turned (way i)) (ap (λ (box : List ℕ). get_or box i 0) e)),
)

-- boxes that became smaller in the same way still differ at idle positions alone
pub still_but_for_idle : {Live : List ℕ → ℕ → Type 0} → StaysIdle Live → {b c b' c' : List ℕ} → ButForIdle Live b c
    → BoxInside b' b × Rooms b' → BoxInside c' c × Rooms c' → SameWay b c b' c' → ButForIdle Live b' c'
unfolding room_at
still_but_for_idle idle {b} {c} {b'} {c'} h ib ic way = record {
  larger = ib.1;
  smaller = ic.1;
  inside = box-inside_of c' b' (box-inside-length c' c ic.0 ∙ box-inside-length c b h.inside ∙ sym (box-inside-length b' b ib.0))
      (λ i l. same_step_keeps (λ r s. T (inside s r)) inside_refl (way i) (box-inside_at c b i h.inside));
  same = λ p live. same_step_keeps (λ r s. r ≡ s) (λ x. refl) (way (p - 1)) (h.same p (idle b b' p ib.1 ib.0 live));
}

-- what differs at positions alone that are idle in more differs so in less
but_for-fewer : {Live Fewer : List ℕ → ℕ → Type 0} {b c : List ℕ} → ((p : ℕ) → Fewer b p → Live b p) → ButForIdle Live b c → ButForIdle Fewer b c
but_for-fewer live h = record { larger = h.larger; smaller = h.smaller; inside = h.inside; same = λ p l. h.same p (live p l) }

-- ---- the laws of each are laws of all: of the parts of a rule, and of the fields of a file

module _ {A : Type 0} (Live : A → List ℕ → ℕ → Type 0) where
  -- what is idle in all of them stays so
  pub all_stay_idle : ((x : A) → StaysIdle (Live x)) → (xs : List A) → StaysIdle (λ box p. Some (λ x. Live x box p) xs)
  all_stay_idle each xs b c p rooms i = some_map (λ x. Live x c p) (λ x. Live x b p) xs (λ x. each x b c p rooms i)

  module _ (Fits : ℕ → A → Type 0) where
    -- what is live in one of them stays so
    pub some_stay_live : ((x : A) → StaysLive (λ v. Fits v x) (Live x)) → (xs : List A) → StaysLive (λ v. Every (Fits v) xs) (λ box p. Some (λ x. Live x box p) xs)
    some_stay_live each xs b c fits h p =
        some_map_listed (λ x. Live x b p) (λ x. Live x c p) xs
        (λ x t. each x b c (every_at (Fits (length b)) fits t) (but_for-fewer (λ q. some_of_listed (λ y. Live y b q) t) h) p)

    -- all are settled in both boxes or not all in either
    pub all_same-settled : (done : List ℕ → A → Bool) → ((x : A) → SameSettled (λ v. Fits v x) (Live x) (λ box. done box x))
        → (xs : List A) → SameSettled (λ v. Every (Fits v) xs) (λ box p. Some (λ x. Live x box p) xs) (λ box. all_of (done box) xs)
    unfolding all_of
    all_same-settled done each [] b c fits h = refl
    all_same-settled done each (x ∷ xs) b c fits h =
        ap₂ ◌&&◌ (each x b c fits.0 (but_for-fewer (λ p. inl) h)) (all_same-settled done each xs b c fits.1 (but_for-fewer (λ p. inr) h))

    module _ (look : A → List ℕ → Look) (inward : (x : A) → Inward (look x)) (idle : (x : A) → StaysIdle (Live x)) where
      -- looks at all of them find the same
      pub in_turn_same : ((x : A) → LooksSame (λ v. Fits v x) (Live x) (look x))
          → (xs : List A) → LooksSame (λ v. Every (Fits v) xs) (λ box p. Some (λ x. Live x box p) xs) (in_turn look xs)
      unfolding in_turn
      in_turn_same each [] b c fits h = both-alive b c refl refl (same_way_stay b c)
      in_turn_same each (x ∷ xs) b c fits h = go (in_turn_same each xs) (each x b c fits.0 (but_for-fewer (λ p. inl) h))
        where
          go : LooksSame (λ v. Every (Fits v) xs) (λ box p. Some (λ y. Live y box p) xs) (in_turn look xs) → SameLooks b c (look x b) (look x c)
              → SameLooks b c (in_turn look (x ∷ xs) b) (in_turn look (x ∷ xs) c)
          go rest (both-dead place e f) = both-dead place (in_turn-dead look x xs b place e) (in_turn-dead look x xs c place f)
          go rest (both-alive b' c' e f way) =
              let ib = inward x b b' h.larger e in
              let ic = inward x c c' h.smaller f in
              let fit = subst (λ (v : ℕ). Every (Fits v) xs) (sym (box-inside-length b' b ib.0)) fits.1 in
              rw (e, f) (same-looks_on way (rest b' c' fit (still_but_for_idle (all_stay_idle idle xs) (but_for-fewer (λ p. inr) h) ib ic way)))
