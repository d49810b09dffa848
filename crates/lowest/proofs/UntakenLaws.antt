-- Laws of the values of a set that no named position has alone in its room. Assumes nothing.
use mathlib.Core.Path.{◌≡◌, refl, sym, ap, ap₂, ◌∙◌, subst}
use mathlib.Core.Logic.Iff
use mathlib.Core.Logic.{◌↔◌, inl, inr, ⊎_elim}
use mathlib.Core.Bool.{Bool, true, false}
use mathlib.Core.List.{List, [], ◌∷◌, Memᴰ}
use Prim.Native.Nat.{ℕ, ◌^◌, ◌<◌}
use native.Mathlib.Decide.{ℕ_discrete}
use native.Mathlib.Omega.{arith}
use lib.Dec.{T, eqb, not_T}
use Rattle.sets.specs.Sets.{IsMember, common, complement, is_empty, inside, single, smallest, count, beside}
use Rattle.sets.proofs.Members.{member_empty, member_range, member-single}
use Rattle.sets.proofs.Sameness.{empty_test, inside_iff, inside_below, single_below}
use Rattle.sets.proofs.Counting.{count_positive, count-inside, count_of-single, member-beside}
use Rattle.sets.proofs.Smallest.{smallest-member, partly-inside_two}
use Rattle.sets.proofs.Unions.{empty-common}
use Rattle.lists.specs.Lists.{Some}
use Rattle.lists.proofs.TestLaws.{test_true, eq_holds, eq_fails, fails_false}
use Rattle.steps.specs.Boxes.{room_at}
use Rattle.lowest.specs.Untaken.{left_by, without_alone, untaken}

-- ---- what one room leaves of a set

-- what a room leaves, by the two tests
left_by_lem : (room m : ℕ) {b c : Bool} → is_empty room ≡ b → eqb (count room) 1 ≡ c → without_alone room m ≡ left_by b c room m
unfolding without_alone
left_by_lem room m e f = ap₂ (λ (b c : Bool). left_by b c room m) e f

some_value : (room : ℕ) → (room ≡ 0 → ⊥) → is_empty room ≡ false
some_value room some = (fails_false (is_empty room)).0 (not_T (is_empty room) (λ t. some ((empty_test room).0 t)))

-- an empty room leaves nothing
without_empty : (room m : ℕ) → room ≡ 0 → without_alone room m ≡ 0
without_empty room m none = left_by_lem room m (test_true (is_empty room) ((empty_test room).1 none)) refl

-- a room of one value leaves the others
without_one : (room m : ℕ) → (room ≡ 0 → ⊥) → count room ≡ 1 → without_alone room m ≡ beside room m
without_one room m some one = left_by_lem room m (some_value room some) (test_true (eqb (count room) 1) ((eq_holds (count room) 1).1 one))

-- a room of more values leaves all
without_more : (room m : ℕ) → (room ≡ 0 → ⊥) → (count room ≡ 1 → ⊥) → without_alone room m ≡ m
without_more room m some more = left_by_lem room m (some_value room some) ((fails_false (eqb (count room) 1)).0 ((eq_fails (count room) 1).1 more))

-- the others, as they are computed: what the set shares with the complement of the room
pub without_one_computed : (room m : ℕ) {beyond rest : ℕ} → is_empty room ≡ false → count room ≡ 1 → beyond ≡ complement 32 room → rest ≡ common m beyond → without_alone room m ≡ rest
unfolding beside
without_one_computed room m some one e f = left_by_lem room m some (test_true (eqb (count room) 1) ((eq_holds (count room) 1).1 one)) ∙ sym (f ∙ ap (common m) e)

-- and all, as they are computed
pub without_more_computed : (room m : ℕ) {rest : ℕ} → is_empty room ≡ false → (count room ≡ 1 → ⊥) → rest ≡ m → without_alone room m ≡ rest
without_more_computed room m some more e = left_by_lem room m some ((fails_false (eqb (count room) 1)).0 ((eq_fails (count room) 1).1 more)) ∙ sym e

-- a value of the set is left exactly if the room does not lie inside {it}
member_without : (room m x : ℕ) → room < 2 ^ 32 → m < 2 ^ 32 → IsMember x (without_alone room m) ↔ (IsMember x m × (T (inside room (single x)) → ⊥))
member_without room m x mask low = go (ℕ_discrete room 0) (ℕ_discrete (count room) 1)
  where
    Left : Type 0
    Left = IsMember x m × (T (inside room (single x)) → ⊥)

    go : Dec (room ≡ 0) → Dec (count room ≡ 1) → IsMember x (without_alone room m) ↔ Left
    go (yes none) one = rw (without_empty room m none) (
      λ t. absurd (member_empty x t),
      λ s. absurd (s.1 ((inside_iff room (single x)).1 (λ y t. absurd (member_empty y (subst (λ (r : ℕ). IsMember y r) none t))))),
    )
    go (no some) (yes one) = rw (without_one room m some one) (Iff.trans (member-beside room m x low) (forth, back))
      where
        first : IsMember (smallest room) room
        first = smallest-member room mask some

        forth : IsMember x m × (IsMember x room → ⊥) → Left
        forth s = (s.0, λ i. s.1 (subst (λ (y : ℕ). IsMember y room) ((member-single x (smallest room)).0 ((inside_iff room (single x)).0 i (smallest room) first)).2 first))

        back : Left → IsMember x m × (IsMember x room → ⊥)
        back s =
            let range = member_range x m low s.0 in
            (s.0, λ t. omega (arith, partly-inside_two room (single x) x mask t ((member-single x x).1 (range.0, range.1, refl)) s.1))
    go (no some) (no more) = rw (without_more room m some more) (λ t. (t, λ i. more (alone t i)), λ s. s.0)
      where
        alone : IsMember x m → T (inside room (single x)) → count room ≡ 1
        alone t i =
            let range = member_range x m low t in
            omega (arith, count-inside room (single x) mask (single_below x) i, count_of-single x range.0 range.1, count_positive room mask some)

-- ---- what the rooms of the named positions leave

-- of the empty set no value is untaken
untaken_empty : (box ps : List ℕ) → untaken box 0 ps ≡ 0
unfolding untaken without_alone beside
untaken_empty box [] = refl
untaken_empty box (p ∷ ps) = ap (λ (m : ℕ). untaken box m ps) (go (is_empty (room_at box p)) (eqb (count (room_at box p)) 1)) ∙ untaken_empty box ps
  where
    go : (b c : Bool) → left_by b c (room_at box p) 0 ≡ 0
    go true c = refl
    go false true = empty-common (complement 32 (room_at box p))
    go false false = refl

module _ (box : List ℕ) (m : ℕ) {left : List ℕ} where
  -- what the room of the first position leaves, and then the positions behind it
  pub untaken_next : {p : ℕ} {more : List ℕ} → left ≡ p ∷ more → {m' : ℕ} → without_alone (room_at box p) m ≡ m' → untaken box m left ≡ untaken box m' more
  unfolding untaken
  untaken_next {p} {more} first e = ap (untaken box m) first ∙ ap (λ (k : ℕ). untaken box k more) e

  -- an empty room: nothing is untaken
  pub untaken-none : {p : ℕ} {more : List ℕ} → left ≡ p ∷ more → T (is_empty (room_at box p)) → untaken box m left ≡ 0
  untaken-none {p} {more} first t = untaken_next first (without_empty (room_at box p) m ((empty_test (room_at box p)).0 t)) ∙ untaken_empty box more

  -- where no position is left: all that was left of the set
  pub untaken_end : left ≡ [] → untaken box m left ≡ m
  unfolding untaken
  untaken_end none = ap (untaken box m) none

-- a value of a set is untaken exactly if no named position has its room inside {it}; the rooms of the named positions are masks
pub member-untaken : (box : List ℕ) (m : ℕ) → m < 2 ^ 32 → (ps : List ℕ) → ((p : ℕ) → Memᴰ p ps → room_at box p < 2 ^ 32) → (x : ℕ)
    → IsMember x (untaken box m ps) ↔ (IsMember x m × (Some (λ p. T (inside (room_at box p) (single x))) ps → ⊥))
unfolding untaken
member-untaken box m low [] masks x = (λ t. (t, λ s. s), λ s. s.0)
member-untaken box m low (p ∷ ps) masks x =
    Iff.trans (member-untaken box (without_alone (room_at box p) m) below ps (λ q t. masks q (Memᴰ.tail t)) x) (
      λ s. let here = (first x).0 s.0 in (here.0, ⊎_elim here.1 s.1),
      λ s. ((first x).1 (s.0, λ i. s.1 (inl i)), λ i. s.1 (inr i)),
    )
  where
    first : (y : ℕ) → IsMember y (without_alone (room_at box p) m) ↔ (IsMember y m × (T (inside (room_at box p) (single y)) → ⊥))
    first y = member_without (room_at box p) m y (masks p (Memᴰ.head refl)) low

    below : without_alone (room_at box p) m < 2 ^ 32
    below = inside_below (without_alone (room_at box p) m) m ((inside_iff (without_alone (room_at box p) m) m).1 (λ y t. ((first y).0 t).0)) low
