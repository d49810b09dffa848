-- Ladders, the sets that count as empty or {1..b} by a starting set (`ladder-exactly`), and laws of clauses in which the united set of at most one
-- position is no ladder. Assumes nothing.
use mathlib.Core.Path.{◌≡◌, refl, sym, ap, ◌∙◌, subst}
use mathlib.Core.Logic.Iff
use mathlib.Core.Logic.{◌↔◌, ◌⊎◌, inl, inr, ⊎_elim, ⊎_map}
use mathlib.Core.Bool.{Bool, false}
use mathlib.Core.List.{List, [], ◌∷◌}
use Prim.Native.Nat.{ℕ, zero, suc, ◌+◌, ◌-◌, ◌^◌, ◌≤◌, ◌<◌}
use native.Mathlib.Decide.{ℕ_discrete, dec_le}
use native.Mathlib.Omega.{arith}
use lib.Dec.{T}
use lib.ListN.{length, get_or, get_or-map}
use lib.Seq.{get_or-set_same}
use Rattle.sets.specs.Sets.{is_member, IsMember, full, common, is_empty, inside, smallest, beside}
use Rattle.sets.specs.Promise.{one_if}
use Rattle.sets.proofs.Members.{member_positive, member_range, member_empty, member-common, member-full}
use Rattle.lists.proofs.TestLaws.{test_true, test_same, test_cases, either_holds}
use Rattle.sets.proofs.Sameness.{member_extensional, no-member_empty, empty_test, inside_iff, full_below}
use Rattle.sets.proofs.Counting.{beside_below, member-beside}
use Rattle.sets.proofs.Smallest.{smallest_of_empty, smallest-least, smallest-member}
use Rattle.rules.specs.declared.field.Atom.{Atom}
use Rattle.rules.specs.Rules.{clause}
use Rattle.rules.specs.Meaning.{value_at, Meets}
use Rattle.steps.specs.Boxes.{room_at, with_room, BoxInside, Rooms, smallest_of}
use Rattle.steps.specs.Shrinking.{alive, united, cut, look_clause}
use Rattle.steps.specs.Special.{is_ladder, odd_sets}
use Rattle.steps.proofs.Boxes.BoxLaws.{in-box_at, box-inside-length, box-inside_at, room_below}
use Rattle.steps.proofs.Boxes.BoxSizes.{smallest_in-box}
use Rattle.steps.proofs.Looks.LiveLaws.{member-united, meets-united, shared_of_live}
use Rattle.steps.proofs.Looks.ClauseLaws.{LiveIn, ClauseLook, none_live, one_live, more_live, clause_look}
use Rattle.steps.proofs.Looks.InTurn.{dead-not-alive}

-- ---- ladders

-- with each starting value in it the set has all smaller starting values
abbrev pub EverySmaller : ℕ → ℕ → Type 0
EverySmaller start m = (x y : ℕ) → IsMember x start → IsMember x m → IsMember y start → y < x → IsMember y m

-- so it has every starting value up to each in it
every-up_to : (start m : ℕ) → EverySmaller start m → (x y : ℕ) → IsMember x start → IsMember x m → IsMember y start → y ≤ x → IsMember y m
every-up_to start m down x y s t u less = go (ℕ_discrete x y)
  where
    go : Dec (x ≡ y) → IsMember y m
    go (yes same) = subst (λ (z : ℕ). IsMember z m) same t
    go (no apart) = down x y s t u (omega arith)

-- the test of a ladder holds exactly of these sets
pub ladder-exactly : (start m : ℕ) → start < 2 ^ 32 → T (is_ladder start m) ↔ EverySmaller start m
unfolding is_ladder
ladder-exactly start m mask = Iff.trans (either_holds (is_empty lacking) (inside (common m start) (full (smallest lacking - 1)))) (forth, back)
  where
    -- the starting values that the set lacks
    lacking : ℕ
    lacking = beside m start

    Low : Type 0
    Low = T (is_empty lacking) ⊎ T (inside (common m start) (full (smallest lacking - 1)))

    forth : Low → EverySmaller start m
    forth low x y s t u less = ⊎_elim (λ h. h) (λ none. absurd (clash ((member-beside m start y mask).1 (u, none)) low)) (test_cases (is_member y m))
      where
        clash : IsMember y lacking → Low → ⊥
        clash there (inl none) = member_empty y (subst (λ (l : ℕ). IsMember y l) ((empty_test lacking).0 none) there)
        clash there (inr i) =
            let least = (smallest-least lacking y (beside_below m start mask) there).1 in
            let inner = (inside_iff (common m start) (full (smallest lacking - 1))).0 i x ((member-common x m start).1 (t, s)) in
            let top = (member-full (smallest lacking - 1) x).0 inner in
            omega arith

    back : EverySmaller start m → Low
    back down = ⊎_elim inl (λ some. inr ((inside_iff (common m start) (full (smallest lacking - 1))).1 (below some))) (test_cases (is_empty lacking))
      where
        below : (T (is_empty lacking) → ⊥) → (x : ℕ) → IsMember x (common m start) → IsMember x (full (smallest lacking - 1))
        below some x t = (member-full (smallest lacking - 1) x).1 (omega (arith, range.1), member_positive x m both.0, under (dec_le (smallest lacking) x))
          where
            both : IsMember x m × IsMember x start
            both = (member-common x m start).0 t

            least : IsMember (smallest lacking) lacking
            least = smallest-member lacking (beside_below m start mask) (λ e. some ((empty_test lacking).1 e))

            range : (1 ≤ smallest lacking) × (smallest lacking ≤ 32)
            range = member_range (smallest lacking) lacking (beside_below m start mask) least

            under : Dec (smallest lacking ≤ x) → x ≤ smallest lacking - 1
            under (yes l) =
                let lacked = (member-beside m start (smallest lacking) mask).0 least in
                absurd (lacked.1 (every-up_to start m down x (smallest lacking) both.1 both.0 lacked.0 l))
            under (no g) = omega (arith, range.0)

-- a set without a starting value is a ladder
pub ladder_apart : (start m : ℕ) → start < 2 ^ 32 → ((x : ℕ) → IsMember x start → IsMember x m → ⊥) → T (is_ladder start m)
ladder_apart start m mask none = (ladder-exactly start m mask).1 (λ x y s t. absurd (none x s t))

-- ---- ladders where every value is a starting value

-- the set is empty, or {1..b} for some b
abbrev pub Ladder : ℕ → Type 0
Ladder m = (m ≡ 0) ⊎ ((b : ℕ) × (1 ≤ b) × (b ≤ 32) × (m ≡ full b))

-- a set with no value above k is empty or {1..b} where it has with each value all smaller ones
smaller-ladder : (k n m : ℕ) → k ≤ n → n ≤ 32 → ((x : ℕ) → IsMember x m → x ≤ k) → EverySmaller (full n) m → Ladder m
smaller-ladder zero n m some small low down = inl (no-member_empty m (λ x t. omega (arith, member_positive x m t, low x t)))
smaller-ladder (suc k) n m some small low down = go (test_cases (is_member (suc k) m)) (λ lower. smaller-ladder k n m (omega arith) small lower down)
  where
    started : (x : ℕ) → 1 ≤ x → x ≤ suc k → IsMember x (full n)
    started x positive less = (member-full n x).1 (small, positive, omega arith)

    go : IsMember (suc k) m ⊎ (IsMember (suc k) m → ⊥) → (((x : ℕ) → IsMember x m → x ≤ k) → Ladder m) → Ladder m
    go (inl top) rest = inr (suc k, omega arith, omega arith, member_extensional m (full (suc k)) same)
      where
        same : (x : ℕ) → IsMember x m ↔ IsMember x (full (suc k))
        same x = (
          λ t. (member-full (suc k) x).1 (omega arith, member_positive x m t, low x t),
          λ t.
              let range = (member-full (suc k) x).0 t in
              every-up_to (full n) m down (suc k) x (started (suc k) (omega arith) (omega arith)) top (started x range.1 range.2) range.2,
        )
    go (inr none) rest = rest (λ x t. below x t (ℕ_discrete x (suc k)))
      where
        below : (x : ℕ) → IsMember x m → Dec (x ≡ suc k) → x ≤ k
        below x t (yes e) = absurd (none (subst (λ (y : ℕ). IsMember y m) e t))
        below x t (no apart) = omega (arith, low x t)

-- where all of {1..n} are starting values the test of a set inside holds exactly if it is empty or {1..b}
pub ladder_of-full : (n m : ℕ) → n ≤ 32 → T (inside m (full n)) → T (is_ladder (full n) m) ↔ Ladder m
ladder_of-full n m small i = Iff.trans (ladder-exactly (full n) m (full_below n)) (smaller-ladder n n m (omega arith) small top, back)
  where
    top : (x : ℕ) → IsMember x m → x ≤ n
    top x t = ((member-full n x).0 ((inside_iff m (full n)).0 i x t)).2

    back : Ladder m → EverySmaller (full n) m
    back (inl e) x y s t u less = absurd (member_empty x (subst (λ (l : ℕ). IsMember x l) e t))
    back (inr l) x y s t u less =
        let below = (member-full l.0 x).0 (subst (λ (k : ℕ). IsMember x k) l.3 t) in
        subst (λ (k : ℕ). IsMember y k) (sym l.3) ((member-full l.0 y).1 (l.2, member_positive y (full n) u, omega arith))

-- ---- how many united sets are no ladders

-- what holds of the last position and of those before it holds of all
up_to : (P : ℕ → Type 0) (v : ℕ) → P (suc v) → ((p : ℕ) → 1 ≤ p → p ≤ v → P p) → (p : ℕ) → 1 ≤ p → p ≤ suc v → P p
up_to P v last each p low high = go (ℕ_discrete p (suc v))
  where
    go : Dec (p ≡ suc v) → P p
    go (yes same) = subst P (sym same) last
    go (no apart) = each p low (omega arith)

module _ (start : List ℕ) (atoms : List Atom) where
  -- the united set of the position is a ladder by its starting set
  abbrev HasLadder : ℕ → Type 0
  HasLadder p = T (is_ladder (room_at start p) (united p atoms))

  -- it is none
  abbrev pub Odd : ℕ → Type 0
  Odd p = HasLadder p → ⊥

  -- no two of the positions 1 to v have sets that are none
  abbrev pub NoTwoOdd : ℕ → Type 0
  NoTwoOdd v = (p q : ℕ) → 1 ≤ p → p < q → q ≤ v → Odd p → Odd q → ⊥

  -- a last position is passed over where its set is a ladder, and counted where it is none
  abbrev Last : ℕ → Type 0
  Last v = (HasLadder (suc v) × (odd_sets (suc v) start atoms ≡ odd_sets v start atoms)) ⊎ (Odd (suc v) × (odd_sets (suc v) start atoms ≡ 1 + odd_sets v start atoms))

  last : (v : ℕ) → Last v
  unfolding odd_sets one_if
  last v =
      let test = is_ladder (room_at start (suc v)) (united (suc v) atoms) in
      ⊎_map (λ t. (t, rw (test_true test t) (omega arith))) (λ n. (n, rw (test_same test false n absurd))) (test_cases test)

  -- none is counted exactly if no position is odd
  none_odd : (v : ℕ) → (odd_sets v start atoms ≡ 0) ↔ ((p : ℕ) → 1 ≤ p → p ≤ v → Odd p → ⊥)
  unfolding odd_sets
  none_odd zero = (λ e p low high. absurd (omega arith), λ each. refl)
  none_odd (suc v) = go (none_odd v) (last v)
    where
      NoneOdd : ℕ → Type 0
      NoneOdd w = (p : ℕ) → 1 ≤ p → p ≤ w → Odd p → ⊥

      go : (odd_sets v start atoms ≡ 0) ↔ NoneOdd v → Last v → (odd_sets (suc v) start atoms ≡ 0) ↔ NoneOdd (suc v)
      go rest (inl (t, e)) = (λ z. up_to (λ p. Odd p → ⊥) v (λ n. n t) (rest.0 (sym e ∙ z)), λ each. e ∙ rest.1 (λ p low high. each p low (omega arith)))
      go rest (inr (n, e)) = (λ z. absurd (omega arith), λ each. absurd (each (suc v) (omega arith) (omega arith) n))

  -- at most one is counted exactly if no two positions are odd
  pub few_odd : (v : ℕ) → (odd_sets v start atoms ≤ 1) ↔ NoTwoOdd v
  unfolding odd_sets
  few_odd zero = (λ l p q low less high. absurd (omega arith), λ each. omega arith)
  few_odd (suc v) = go (few_odd v) (last v)
    where
      go : (odd_sets v start atoms ≤ 1) ↔ NoTwoOdd v → Last v → (odd_sets (suc v) start atoms ≤ 1) ↔ NoTwoOdd (suc v)
      go rest (inl (t, e)) = (
        λ few p q low less high odd. up_to (λ r. p < r → Odd r → ⊥) v (λ l n. n t) (λ r some h l. rest.0 (omega arith) p r low l h odd) q (omega arith) high less,
        λ each. let few = rest.1 (λ p q low less high. each p q low less (omega arith)) in omega arith,
      )
      go rest (inr (n, e)) = (
        λ few p q low less high odd also. (none_odd v).0 (omega arith) p low (omega arith) odd,
        λ each. let none = (none_odd v).1 (λ p low high odd. each p (suc v) low (omega arith) (omega arith) odd n) in omega arith,
      )

-- in a clause of one atom at most one is counted: every other position has no value in it
pub one_atom-few : (start : List ℕ) (a : Atom) (v : ℕ) → Rooms start → odd_sets v start (a ∷ []) ≤ 1
unfolding room_at
one_atom-few start a v first = (few_odd start (a ∷ []) v).1 (λ p q low less high odd also. go p q less odd also (ℕ_discrete a.position p))
  where
    other : (p : ℕ) → (a.position ≡ p → ⊥) → T (is_ladder (room_at start p) (united p (a ∷ [])))
    other p apart =
        ladder_apart (room_at start p) (united p (a ∷ [])) (room_below start (p - 1) first)
        (λ x s t. ⊎_elim (λ h. apart h.0) (λ h. h) ((member-united p x (a ∷ [])).0 t))

    go : (p q : ℕ) → p < q → Odd start (a ∷ []) p → Odd start (a ∷ []) q → Dec (a.position ≡ p) → ⊥
    go p q less odd also (yes e) = also (other q (λ f. omega arith))
    go p q less odd also (no apart) = odd (other p apart)

-- ---- the smallest values

-- the smallest values at a place: the smallest value of the room there
pub smallest_at : (box : List ℕ) (i : ℕ) → get_or (smallest_of box) i 0 ≡ smallest (get_or box i 0)
unfolding smallest_of
smallest_at box i = subst (λ (d : ℕ). get_or (smallest_of box) i d ≡ smallest (get_or box i 0)) smallest_of_empty (get_or-map smallest box i 0)

module _ (atoms : List Atom) (box : List ℕ) (rooms : Rooms box) (p : ℕ) (live : LiveIn atoms box p) where
  -- in a box inside the start, the smallest value of a live position whose united set is a ladder is in that set: it and every value shared are starting values
  ladder_met : (start : List ℕ) → Rooms start → BoxInside box start → T (is_ladder (room_at start p) (united p atoms))
      → IsMember (value_at (smallest_of box) p) (united p atoms)
  unfolding room_at
  ladder_met start first within ladder =
      let room = get_or box (p - 1) 0 in
      let all = get_or start (p - 1) 0 in
      let started = (inside_iff room all).0 (box-inside_at box start (p - 1) within) in
      let mask = room_below box (p - 1) rooms in
      let shared = shared_of_live atoms p room mask live.2 in
      let least = smallest-least room shared.0 mask shared.1 in
      let down = (ladder-exactly all (united p atoms) (room_below start (p - 1) first)).0 ladder in
      let here = started (smallest room) least.0 in
      subst (λ (x : ℕ). IsMember x (united p atoms)) (sym (smallest_at box (p - 1)))
      (every-up_to all (united p atoms) down shared.0 (smallest room) (started shared.0 shared.1) shared.2 here least.1)

  -- the smallest value of a position whose room is cut down to its united set already is in that set
  cut_met : cut atoms p box ≡ box → IsMember (value_at (smallest_of box) p) (united p atoms)
  unfolding cut with_room room_at
  cut_met same =
      let room = get_or box (p - 1) 0 in
      let x = value_at (smallest_of box) p in
      let there : p - 1 < length box = omega arith in
      let shared : room ≡ common room (united p atoms) =
      ap (λ (b : List ℕ). get_or b (p - 1) 0) (sym same) ∙ get_or-set_same box (p - 1) (common room (united p atoms)) 0 there in
      let here = in-box_at (smallest_of box) box (p - 1) (smallest_in-box box rooms) there in
      ((member-common x room (united p atoms)).0 (subst (λ (s : ℕ). IsMember x s) shared here)).1

-- in a box inside the start, where the look at a clause with at most one united set that is no ladder changes nothing, the smallest values meet it
pub ladder-clause-least : (start box : List ℕ) → Rooms start → Rooms box → BoxInside box start → (place : ℕ) (atoms : List Atom)
    → odd_sets (length start) start atoms ≤ 1 → look_clause place atoms box ≡ alive box → Meets (smallest_of box) (clause atoms)
ladder-clause-least start box first rooms within place atoms few e = (meets-united (smallest_of box) atoms).1 (go (clause_look place atoms box))
  where
    ladder : ℕ → Bool
    ladder p = is_ladder (room_at start p) (united p atoms)

    met : (p : ℕ) → LiveIn atoms box p → T (ladder p) → (q : ℕ) × IsMember (value_at (smallest_of box) q) (united q atoms)
    met p live t = (p, ladder_met atoms box rooms p live start first within t)

    go : ClauseLook place atoms box → (p : ℕ) × IsMember (value_at (smallest_of box) p) (united p atoms)
    go (none_live dull f) = absurd (dead-not-alive (look_clause place atoms box) place box f e)
    go (one_live p live only f) = let same : cut atoms p box ≡ box = cc in (p, cut_met atoms box rooms p live same)
    go (more_live p q live also less f) =
        let last : q ≤ length start = omega (arith, box-inside-length box start within) in
        let not-both = (few_odd start atoms (length start)).0 few p q live.0 less last in
        ⊎_elim (met p live) (λ odd. ⊎_elim (met q also) (λ too. absurd (not-both odd too)) (test_cases (ladder q))) (test_cases (ladder p))
