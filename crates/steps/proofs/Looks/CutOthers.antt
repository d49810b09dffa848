-- Rooms cut down to the values outside a set: what each room then is, `cut_at_lem`, and that the box lies inside the box before without an empty room, `cut_inside`. Assumes nothing.
use mathlib.Core.Path.{◌≡◌, refl, sym, ap, ◌∙◌, subst}
use mathlib.Core.Bool.{false}
use mathlib.Core.Logic.{◌⊎◌, inl, inr, ⊎_elim}
use mathlib.Core.List.Memᴰ
use mathlib.Core.List.{List, [], ◌∷◌, Memᴰ}
use Prim.Native.Nat.{ℕ, ◌-◌, ◌^◌, ◌<◌}
use native.Mathlib.Decide.{ℕ_discrete, dec_lt}
use native.Mathlib.Omega.{arith}
use lib.Dec.{T}
use lib.ListN.{length, get_or, set, length-set, get_or-eq_default}
use lib.Seq.{get_or-set_same, get_or-set_other}
use Rattle.sets.specs.Sets.{inside, beside}
use Rattle.sets.proofs.Sameness.{inside_refl}
use Rattle.sets.proofs.Unions.{empty-inside}
use Rattle.sets.proofs.Counting.{beside_below}
use Rattle.sets.proofs.Outside.{beside-inside, beside_some, beside_twice}
use Rattle.lists.proofs.TestLaws.{test_cases, test_true, test_same}
use Rattle.lists.proofs.ListLaws.{every_of_places}
use Rattle.steps.specs.Boxes.{room_at, with_room, BoxInside, Rooms}
use Rattle.steps.specs.Shrinking.{cut_one, cut_others}
use Rattle.steps.proofs.Boxes.BoxLaws.{box-inside_of, rooms_at, room_below}

-- ---- one room

module _ (m p : ℕ) (box : List ℕ) where
  -- a room inside the set stays
  pub one_kept : T (inside (room_at box p) m) → cut_one m p box ≡ box
  unfolding cut_one
  one_kept t = rw (test_true (inside (room_at box p) m) t)

  -- any other is cut
  pub one-cut : (T (inside (room_at box p) m) → ⊥) → cut_one m p box ≡ set box (p - 1) (beside m (get_or box (p - 1) 0))
  unfolding cut_one room_at with_room
  one-cut out = rw (test_same (inside (get_or box (p - 1) 0) m) false out absurd)

  -- there are as many rooms as before
  one-length : length (cut_one m p box) ≡ length box
  one-length =
      ⊎_elim (λ t. ap length (one_kept t)) (λ out. ap length (one-cut out) ∙ length-set box (p - 1) (beside m (get_or box (p - 1) 0))) (test_cases (inside (room_at box p) m))

  -- a room at another index stays
  one_other : (i : ℕ) → (p - 1 ≡ i → ⊥) → get_or (cut_one m p box) i 0 ≡ get_or box i 0
  one_other i apart =
      ⊎_elim (λ t. ap (λ (b : List ℕ). get_or b i 0) (one_kept t))
      (λ out. ap (λ (b : List ℕ). get_or b i 0) (one-cut out) ∙ get_or-set_other box (p - 1) i (beside m (get_or box (p - 1) 0)) 0 (λ e. apart (sym e))) (test_cases (inside (room_at box p) m))

  -- a room that does not lie inside the set is there: the one that is read past the last is empty
  there : (T (inside (room_at box p) m) → ⊥) → p - 1 < length box
  unfolding room_at
  there out = go (dec_lt (p - 1) (length box))
    where
      go : Dec (p - 1 < length box) → p - 1 < length box
      go (yes l) = l
      go (no past) = absurd (out (subst (λ (room : ℕ). T (inside room m)) (sym (get_or-eq_default box 0 {n = p - 1} (omega arith))) (empty-inside m)))

  -- it becomes what it has outside
  one-here : (T (inside (room_at box p) m) → ⊥) → get_or (cut_one m p box) (p - 1) 0 ≡ beside m (get_or box (p - 1) 0)
  one-here out = ap (λ (b : List ℕ). get_or b (p - 1) 0) (one-cut out) ∙ get_or-set_same box (p - 1) (beside m (get_or box (p - 1) 0)) 0 (there out)

-- ---- the rooms of all of the positions

-- the room at an index stays: it lies inside the set where a named position has that index; or it is cut: it does not, and one has
pub data CutAt (m : ℕ) (ps box : List ℕ) (i : ℕ) : Type 0 where
  kept : ((p : ℕ) → Memᴰ p ps → p - 1 ≡ i → T (inside (get_or box i 0) m)) → get_or (cut_others m ps box) i 0 ≡ get_or box i 0 → CutAt m ps box i
  cut : (p : ℕ) → Memᴰ p ps → p - 1 ≡ i → (T (inside (get_or box i 0) m) → ⊥) → get_or (cut_others m ps box) i 0 ≡ beside m (get_or box i 0) → CutAt m ps box i

-- there are as many rooms as before
pub cut-length : (m : ℕ) (ps box : List ℕ) → length (cut_others m ps box) ≡ length box
unfolding cut_others
cut-length m [] box = refl
cut-length m (p ∷ ps) box = cut-length m ps (cut_one m p box) ∙ one-length m p box

-- each room is one of the two
pub cut_at_lem : (m : ℕ) (ps box : List ℕ) (i : ℕ) → get_or box i 0 < 2 ^ 32 → CutAt m ps box i
unfolding cut_others room_at
cut_at_lem m [] box i mask = kept (λ p t. absurd (Memᴰ.not-nil t)) refl
cut_at_lem m (p ∷ ps) box i mask = go (λ b h. cut_at_lem m ps b i h) (ℕ_discrete (p - 1) i) (test_cases (inside (get_or box (p - 1) 0) m))
  where
    Later : List ℕ → Type 0
    Later b = get_or b i 0 < 2 ^ 32 → CutAt m ps b i

    -- what stands at the index after the first position is as before: so it is with those behind it
    same : get_or (cut_one m p box) i 0 ≡ get_or box i 0 → (p - 1 ≡ i → T (inside (get_or box i 0) m)) → CutAt m ps (cut_one m p box) i → CutAt m (p ∷ ps) box i
    same e first (kept each f) =
        kept (λ q t at. ⊎_elim (λ is. first (ap (λ (r : ℕ). r - 1) (sym is) ∙ at)) (λ u. subst (λ (room : ℕ). T (inside room m)) e (each q u at)) (Memᴰ.cases_cons t)) (f ∙ e)
    same e first (cut q t at out f) = cut q (Memᴰ.tail t) at (λ u. out (subst (λ (room : ℕ). T (inside room m)) (sym e) u)) (f ∙ ap (beside m) e)

    -- it was cut: those behind it find nothing more to cut there
    here : p - 1 ≡ i → (T (inside (get_or box i 0) m) → ⊥) → get_or (cut_one m p box) i 0 ≡ beside m (get_or box i 0) → CutAt m ps (cut_one m p box) i → CutAt m (p ∷ ps) box i
    here at out e (kept each f) = cut p (Memᴰ.head refl) at out (f ∙ e)
    here at out e (cut q t too still f) = cut p (Memᴰ.head refl) at out (f ∙ ap (beside m) e ∙ beside_twice m (get_or box i 0) mask)

    go : ((b : List ℕ) → Later b) → Dec (p - 1 ≡ i) → T (inside (get_or box (p - 1) 0) m) ⊎ (T (inside (get_or box (p - 1) 0) m) → ⊥) → CutAt m (p ∷ ps) box i
    go later (no apart) t = let e = one_other m p box i apart in same e (λ at. absurd (apart at)) (later (cut_one m p box) (subst (λ (room : ℕ). room < 2 ^ 32) (sym e) mask))
    go later (yes at) (inl t) =
        let e = ap (λ (b : List ℕ). get_or b i 0) (one_kept m p box t) in
        same e (λ _. subst (λ (j : ℕ). T (inside (get_or box j 0) m)) at t) (later (cut_one m p box) (subst (λ (room : ℕ). room < 2 ^ 32) (sym e) mask))
    go later (yes at) (inr out) =
        let e = subst (λ (j : ℕ). get_or (cut_one m p box) j 0 ≡ beside m (get_or box j 0)) at (one-here m p box out) in
        here at (subst (λ (j : ℕ). T (inside (get_or box j 0) m) → ⊥) at out) e (later (cut_one m p box) (subst (λ (room : ℕ). room < 2 ^ 32) (sym e) (beside_below m (get_or box i 0) mask)))

-- the box lies inside the box before, and no room becomes empty
pub cut_inside : (m : ℕ) (ps box : List ℕ) → Rooms box → BoxInside (cut_others m ps box) box × Rooms (cut_others m ps box)
cut_inside m ps box rooms = (
  box-inside_of (cut_others m ps box) box (cut-length m ps box) (λ i l. smaller i (cut_at_lem m ps box i (room_below box i rooms))),
  every_of_places (λ room. (room < 2 ^ 32) × (room ≡ 0 → ⊥)) (cut_others m ps box)
      (λ i l. filled i (rooms_at box i rooms (omega (arith, cut-length m ps box))) (cut_at_lem m ps box i (room_below box i rooms))),
)
  where
    smaller : (i : ℕ) → CutAt m ps box i → T (inside (get_or (cut_others m ps box) i 0) (get_or box i 0))
    smaller i (kept each e) = subst (λ (room : ℕ). T (inside room (get_or box i 0))) (sym e) (inside_refl (get_or box i 0))
    smaller i (cut p t at out e) = subst (λ (room : ℕ). T (inside room (get_or box i 0))) (sym e) (beside-inside m (get_or box i 0) (room_below box i rooms))

    Filled : ℕ → Type 0
    Filled room = (room < 2 ^ 32) × (room ≡ 0 → ⊥)

    filled : (i : ℕ) → Filled (get_or box i 0) → CutAt m ps box i → Filled (get_or (cut_others m ps box) i 0)
    filled i room (kept each e) = subst Filled (sym e) room
    filled i room (cut p t at out e) = subst Filled (sym e) (beside_below m (get_or box i 0) room.0, beside_some m (get_or box i 0) room.0 out)
