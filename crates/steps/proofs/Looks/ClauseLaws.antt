-- The six laws of a clause. Assumes nothing.
use mathlib.Core.Path.{◌≡◌, refl, sym, ap, ◌∙◌, subst}
use mathlib.Core.Logic.Iff
use mathlib.Core.Logic.{◌↔◌}
use mathlib.Core.Bool.{false}
use mathlib.Core.List.Memᴰ
use mathlib.Core.List.{List, [], ◌∷◌, Memᴰ}
use Prim.Native.Nat.{ℕ, ◌+◌, ◌-◌, ◌^◌, ◌≤◌, ◌<◌}
use native.Mathlib.Omega.{arith}
use lib.Dec.{T}
use lib.ListN.{length, get_or}
use Rattle.sets.specs.Sets.{IsMember, inside, count, IsRising}
use Rattle.sets.proofs.Sameness.{inside_iff}
use Rattle.sets.proofs.Smallest.{partly-inside_two}
use Rattle.lists.proofs.TestLaws.{either_holds}
use Rattle.rules.specs.declared.field.Atom.{Atom}
use Rattle.lists.specs.Lists.{Some, Every}
use Rattle.rules.specs.Rules.{clause}
use Rattle.rules.specs.Meaning.{value_at, Meets}
use Rattle.lists.proofs.ListLaws.{some_of_listed, listed_of_some, every_at, either_same}
use Rattle.steps.specs.Boxes.{room_at, with_room, InBox, BoxInside, Rooms}
use Rattle.steps.specs.Shrinking.{dead, alive, united, is_live, live_from, cut, look_by, look_clause, settled_by, settled_clause}
use Rattle.steps.proofs.Boxes.BoxLaws.{in-box_at, box-inside-length, box-inside_at, box-inside_refl, box-inside_trans}
use Rattle.steps.proofs.Boxes.BoxLaws.{rooms_at, shared_in-box, shared-inside, shared-rooms, shared_both-inside}
use Rattle.steps.proofs.Looks.SixLaws.{Sound, Inward, Settling, Steady, Monotone, NotLive, Names}
use Rattle.steps.proofs.Looks.InTurn.{dead-not-alive, alive_once}
use Rattle.steps.proofs.Looks.LiveLaws.{united-named, meets-united, live_of_shared, live-not_empty, shared_of_live, live_listed, live-rising}

-- the atoms name positions 1 to v, and their sets are masks
abbrev pub ClauseFits : ℕ → List Atom → Type 0
ClauseFits v atoms = Every (λ a. (1 ≤ a.position) × (a.position ≤ v) × (a.set < 2 ^ 32)) atoms

-- p is a position of the box that is live in the clause
abbrev pub LiveIn : List Atom → List ℕ → ℕ → Type 0
LiveIn atoms box p = (1 ≤ p) × (p ≤ length box) × T (is_live atoms p (room_at box p))

-- ---- what a look finds

-- the look by the live positions: none, just one, or two and more
pub data ClauseLook (place : ℕ) (atoms : List Atom) (box : List ℕ) : Type 0 where
  none_live : ((p : ℕ) → LiveIn atoms box p → ⊥) → look_clause place atoms box ≡ dead place → ClauseLook place atoms box
  one_live : (p : ℕ) → LiveIn atoms box p → ((q : ℕ) → LiveIn atoms box q → q ≡ p) → look_clause place atoms box ≡ alive (cut atoms p box)
      → ClauseLook place atoms box
  more_live : (p q : ℕ) → LiveIn atoms box p → LiveIn atoms box q → p < q → look_clause place atoms box ≡ alive box → ClauseLook place atoms box

-- the positions listed from 1 on are the live ones
listed_live : (atoms : List Atom) (box : List ℕ) (p : ℕ) → Memᴰ p (live_from atoms 1 box) ↔ LiveIn atoms box p
unfolding room_at
listed_live atoms box p =
    Iff.trans (live_listed atoms 1 box p) (forth, λ h. (p - 1, omega arith, omega arith, h.2))
  where
    forth : (i : ℕ) × (p ≡ 1 + i) × (i < length box) × T (is_live atoms p (get_or box i 0)) → LiveIn atoms box p
    forth (i, e, l, live) =
        let here : i ≡ p - 1 = omega arith in
        (omega arith, omega arith, subst (λ (j : ℕ). T (is_live atoms p (get_or box j 0))) here live)

-- each look at a clause is one of these
pub clause_look : (place : ℕ) (atoms : List Atom) (box : List ℕ) → ClauseLook place atoms box
unfolding look_clause look_by IsRising
clause_look place atoms box = go (live_from atoms 1 box) refl
  where
    look : (ps : List ℕ) → live_from atoms 1 box ≡ ps → look_clause place atoms box ≡ look_by ps place atoms box
    look ps e = ap (λ (qs : List ℕ). look_by qs place atoms box) e

    live : (ps : List ℕ) → live_from atoms 1 box ≡ ps → (p : ℕ) → Memᴰ p ps → LiveIn atoms box p
    live ps e p t = (listed_live atoms box p).0 (subst (λ (qs : List ℕ). Memᴰ p qs) (sym e) t)

    listed : (ps : List ℕ) → live_from atoms 1 box ≡ ps → (p : ℕ) → LiveIn atoms box p → Memᴰ p ps
    listed ps e p h = subst (λ (qs : List ℕ). Memᴰ p qs) e ((listed_live atoms box p).1 h)

    go : (ps : List ℕ) → live_from atoms 1 box ≡ ps → ClauseLook place atoms box
    go [] e = none_live (λ p h. Memᴰ.not-nil (listed [] e p h)) (look [] e)
    go (p ∷ []) e = one_live p (live (p ∷ []) e p (Memᴰ.head refl)) (λ q h. Memᴰ.eq_of_singleton (listed (p ∷ []) e q h)) (look (p ∷ []) e)
    go (p ∷ q ∷ ps) e =
        more_live p q (live (p ∷ q ∷ ps) e p (Memᴰ.head refl)) (live (p ∷ q ∷ ps) e q (Memᴰ.tail (Memᴰ.head refl)))
        (subst (IsRising 0) e (live-rising atoms 0 1 box (omega arith))).1.0 (look (p ∷ q ∷ ps) e)

-- where a look is alive some position is live
alive_live : (place : ℕ) (atoms : List Atom) (box box' : List ℕ) → look_clause place atoms box ≡ alive box' → (p : ℕ) × LiveIn atoms box p
alive_live place atoms box box' e = go (clause_look place atoms box)
  where
    go : ClauseLook place atoms box → (p : ℕ) × LiveIn atoms box p
    go (none_live dull f) = absurd (dead-not-alive (look_clause place atoms box) place box' f e)
    go (one_live p there only f) = (p, there)
    go (more_live p q there also l f) = (p, there)

-- ---- values in rooms and unions

-- an atom of the clause names a position of the box
pub fits-position : (v : ℕ) (atoms : List Atom) {a : Atom} → ClauseFits v atoms → Memᴰ a atoms → (1 ≤ a.position) × (a.position ≤ v)
fits-position v atoms fits t = let fit = every_at (λ a. (1 ≤ a.position) × (a.position ≤ v) × (a.set < 2 ^ 32)) fits t in (fit.0, fit.1)

-- a position with a value in its union is one of the box, and live
value_live : (atoms : List Atom) (box a : List ℕ) (p : ℕ) → ClauseFits (length box) atoms → InBox a box → IsMember (value_at a p) (united p atoms)
    → LiveIn atoms box p
unfolding room_at
value_live atoms box a p fits h t =
    let named = united-named p (value_at a p) atoms t in
    let fit = fits-position (length box) atoms fits named.1 in
    let l : 1 ≤ p = omega arith in
    let g : p ≤ length box = omega arith in
    (l, g, live_of_shared atoms p (get_or box (p - 1) 0) (value_at a p) (in-box_at a box (p - 1) h (omega arith)) t)

-- the room of a live position is a mask, and not empty
live_room : (atoms : List Atom) (box : List ℕ) (p : ℕ) → Rooms box → LiveIn atoms box p → (room_at box p < 2 ^ 32) × (room_at box p ≡ 0 → ⊥)
unfolding room_at
live_room atoms box p rooms h = rooms_at box (p - 1) rooms (omega arith)

-- the room of a position lies inside its union
abbrev pub ShowsSettled : List Atom → List ℕ → ℕ → Type 0
ShowsSettled atoms box p = T (inside (room_at box p) (united p atoms))

-- a clause is settled exactly if some atom's position has its room inside its union
pub settled_some : (some atoms : List Atom) (box : List ℕ) → T (settled_by some atoms box) ↔ Some (λ a. ShowsSettled atoms box a.position) some
unfolding settled_by
settled_some [] atoms box = Iff.rfl
settled_some (a ∷ more) atoms box =
    Iff.trans (either_holds (inside (room_at box a.position) (united a.position atoms)) (settled_by more atoms box)) (either_same Iff.rfl (settled_some more atoms box))

-- in a clause that is not settled every live position has two or more values
pub live_two : (atoms : List Atom) (box : List ℕ) (p : ℕ) → room_at box p < 2 ^ 32 → settled_clause box atoms ≡ false → T (is_live atoms p (room_at box p)) → 2 ≤ count (room_at box p)
unfolding settled_clause
live_two atoms box p mask u live =
    partly-inside_two (room_at box p) (united p atoms) shared.0 mask shared.1 shared.2 unsettled
  where
    shared : (x : ℕ) × IsMember x (room_at box p) × IsMember x (united p atoms)
    shared = shared_of_live atoms p (room_at box p) mask live

    unsettled : ShowsSettled atoms box p → ⊥
    unsettled t =
        let named = united-named p shared.0 atoms shared.2 in
        let here = subst (ShowsSettled atoms box) (sym named.2) t in
        subst T u ((settled_some atoms atoms box).1 (some_of_listed (λ a. ShowsSettled atoms box a.position) named.1 here))

-- a position that is live in a box is live in a larger one
pub live_larger : (atoms : List Atom) (b c : List ℕ) (p : ℕ) → Rooms b → BoxInside b c → LiveIn atoms b p → LiveIn atoms c p
unfolding room_at
live_larger atoms b c p rooms i live =
    let shared = shared_of_live atoms p (get_or b (p - 1) 0) (live_room atoms b p rooms live).0 live.2 in
    let there = (inside_iff (get_or b (p - 1) 0) (get_or c (p - 1) 0)).0 (box-inside_at b c (p - 1) i) shared.0 shared.1 in
    (live.0, omega (arith, box-inside-length b c i), live_of_shared atoms p (get_or c (p - 1) 0) shared.0 there shared.2)

-- ---- the laws

-- settled: every assignment of a settled box meets the clause
pub clause-settled : (atoms : List Atom) → Settling (λ v. ClauseFits v atoms) (λ a. Meets a (clause atoms)) (λ box. settled_clause box atoms)
unfolding settled_clause room_at
clause-settled atoms box a fits t h =
    let found = listed_of_some (λ b. ShowsSettled atoms box b.position) atoms ((settled_some atoms atoms box).0 t) in
    let p = found.0.position in
    let fit = fits-position (length box) atoms fits found.1 in
    let value : IsMember (value_at a p) (room_at box p) = in-box_at a box (p - 1) h (omega arith) in
    (meets-united a atoms).1 (p, (inside_iff (room_at box p) (united p atoms)).0 found.2 (value_at a p) value)

-- not live: two assignments of the box that agree at every live position both meet the clause or both do not
pub clause-not_live : (atoms : List Atom) → NotLive (λ v. ClauseFits v atoms) (λ a. Meets a (clause atoms)) (LiveIn atoms)
clause-not_live atoms box a b fits ha hb same = (meets a b ha same, meets b a hb (λ p l. sym (same p l)))
  where
    meets : (c d : List ℕ) → InBox c box → ((p : ℕ) → LiveIn atoms box p → value_at c p ≡ value_at d p) → Meets c (clause atoms) → Meets d (clause atoms)
    meets c d h agree m =
        let met = (meets-united c atoms).0 m in
        let live = value_live atoms box c met.0 fits h met.1 in
        (meets-united d atoms).1 (met.0, subst (λ (x : ℕ). IsMember x (united met.0 atoms)) (agree met.0 live) met.1)

module _ (place : ℕ) (atoms : List Atom) where
  -- sound: an assignment of the box that meets the clause is still in the box after the look, which is not dead
  pub clause-sound : Sound (λ v. ClauseFits v atoms) (λ a. Meets a (clause atoms)) (look_clause place atoms)
  unfolding cut with_room room_at
  clause-sound box a rooms fits h m = go (clause_look place atoms box)
    where
      met : (p : ℕ) × IsMember (value_at a p) (united p atoms)
      met = (meets-united a atoms).0 m

      live : LiveIn atoms box met.0
      live = value_live atoms box a met.0 fits h met.1

      go : ClauseLook place atoms box → (box' : List ℕ) × (look_clause place atoms box ≡ alive box') × InBox a box'
      go (none_live dull e) = absurd (dull met.0 live)
      go (one_live p there only e) =
          let value = subst (λ (q : ℕ). IsMember (value_at a q) (united q atoms)) (only met.0 live) met.1 in
          (cut atoms p box, e, shared_in-box a box (p - 1) (united p atoms) (omega (arith, there.0, there.1)) h value)
      go (more_live p q hp hq l e) = (box, e, h)

  -- inside: the box after the look lies inside the box before, and no room becomes empty
  pub clause-inside : Inward (look_clause place atoms)
  unfolding cut with_room room_at
  clause-inside box box' rooms e = go (clause_look place atoms box)
    where
      Smaller : List ℕ → Type 0
      Smaller b = BoxInside b box × Rooms b

      go : ClauseLook place atoms box → Smaller box'
      go (none_live dull f) = absurd (dead-not-alive (look_clause place atoms box) place box' f e)
      go (one_live p there only f) =
          subst Smaller (alive_once (look_clause place atoms box) (cut atoms p box) box' f e) (
            shared-inside box (p - 1) (united p atoms),
            shared-rooms box (p - 1) (united p atoms) (omega (arith, there.0, there.1)) rooms (live-not_empty atoms p (get_or box (p - 1) 0) there.2),
          )
      go (more_live p q there also l f) = subst Smaller (alive_once (look_clause place atoms box) box box' f e) (box-inside_refl box, rooms)

  -- a dead look names the place that it was given
  pub clause-place : Names place (look_clause place atoms)
  clause-place box p e = go (clause_look place atoms box)
    where
      go : ClauseLook place atoms box → p ≡ place
      go (none_live dull f) = cc
      go (one_live q there only f) = cc
      go (more_live q r there also l f) = cc

  -- steady: where the look changes nothing and the clause is not settled, a live position has two or more values
  pub clause_steady : Steady (λ v. ClauseFits v atoms) (LiveIn atoms) (look_clause place atoms) (λ box. settled_clause box atoms)
  clause_steady box rooms fits e u =
      let live = alive_live place atoms box box e in
      (live.0, live.1, live.1.0, live.1.1, live_two atoms box live.0 (live_room atoms box live.0 rooms live.1).0 u live.1.2)

  -- monotone: a smaller box gives a smaller result, and where the larger is dead so is the smaller
  pub clause_monotone : Monotone (look_clause place atoms)
  unfolding cut with_room room_at
  clause_monotone b c b' hb hc i e = go (clause_look place atoms c)
    where
      larger : (p : ℕ) → LiveIn atoms b p → LiveIn atoms c p
      larger p = live_larger atoms b c p hb i

      alone : (p : ℕ) → ((q : ℕ) → LiveIn atoms c q → q ≡ p) → ClauseLook place atoms b → BoxInside b' (cut atoms p c)
      alone p only (none_live dull f) = absurd (dead-not-alive (look_clause place atoms b) place b' f e)
      alone p only (one_live q there sole f) =
          let same : cut atoms p b ≡ cut atoms q b = ap (λ (r : ℕ). cut atoms r b) (sym (only q (larger q there))) in
          subst (λ (d : List ℕ). BoxInside d (cut atoms p c)) (same ∙ alive_once (look_clause place atoms b) (cut atoms q b) b' f e)
          (shared_both-inside b c (p - 1) (united p atoms) i)
      alone p only (more_live q r there also l f) = let x = only q (larger q there) in let y = only r (larger r also) in absurd (omega arith)

      go : ClauseLook place atoms c → (c' : List ℕ) × (look_clause place atoms c ≡ alive c') × BoxInside b' c'
      go (none_live dull f) = let live = alive_live place atoms b b' e in absurd (dull live.0 (larger live.0 live.1))
      go (one_live p there only f) = (cut atoms p c, f, alone p only (clause_look place atoms b))
      go (more_live p q there also l f) = (c, f, box-inside_trans b' b c (clause-inside b b' hb e).0 i)
