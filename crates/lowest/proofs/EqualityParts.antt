-- What an equality leaves to be split: a named position whose room meets M and does not lie inside it, or has a value that is not taken. Assumes nothing.
use mathlib.Core.Path.{◌≡◌, refl, sym, ap, subst}
use mathlib.Core.Logic.Iff
use mathlib.Core.Logic.{◌↔◌, ◌⊎◌, inl, inr, ⊎_elim}
use mathlib.Core.Bool.{Bool, true, false, not}
use mathlib.Core.List.Memᴰ
use mathlib.Core.List.{List, [], ◌∷◌, map, Memᴰ}
use Prim.Native.Nat.{ℕ, ◌+◌, ◌^◌, ◌≤◌, ◌<◌}
use native.Mathlib.Omega.{arith}
use lib.Dec.{T, T_not, not_T}
use lib.ListN.{get_or}
use Rattle.sets.specs.Sets.{IsMember, common, inside, meets, single, values, count}
use Rattle.sets.proofs.Members.{member_range, member-common, member-single}
use Rattle.sets.proofs.Sameness.{common_below, member_extensional, inside_iff, inside_below, single_below}
use Rattle.sets.proofs.Outside.{meets_shared}
use Rattle.sets.proofs.Smallest.{partly-inside_two}
use Rattle.sets.proofs.Values.{member_of_listed, listed_of-member}
use Rattle.lists.specs.Lists.{Some}
use Rattle.lists.proofs.ListLaws.{some_of_listed, listed_of_some, some-over_map, some-over-append, some_same}
use Rattle.lists.proofs.TestLaws.{both_hold, fails_false}
use Rattle.rules.specs.Rules.{equality}
use Rattle.rules.specs.Parts.{Part, one_of, atom_in, each_inside, each_taken, equality_parts, parts_of}
use Rattle.steps.specs.Boxes.{room_at}
use Rattle.steps.specs.Shrinking.{united, is_live, settled_clause, some_of, live_unsettled, live_in_rule}
use Rattle.steps.proofs.Looks.LiveLaws.{member-united}
use Rattle.steps.proofs.Looks.LiveTests.{some_of_holds}
use Rattle.steps.proofs.Looks.ClauseLaws.{ShowsSettled, settled_some}
use Rattle.steps.proofs.Boxes.BoxSizes.{wide-and}
use Rattle.lowest.specs.LowestBy.{splits_by}
use Rattle.lowest.specs.Untaken.{untaken}
use Rattle.lowest.proofs.LowestInTurn.{named_at, named_some}
use Rattle.lowest.proofs.UntakenLaws.{member-untaken}

-- two sets share a value
abbrev Shared : ℕ → ℕ → Type 0
Shared a b = (x : ℕ) × IsMember x a × IsMember x b

-- ---- the clause "one of these positions is in the set"

-- a value is in the union of a position's sets exactly if the position is named and the set has the value
member-united_in : (s p x : ℕ) (ps : List ℕ) → IsMember x (united p (map (atom_in s) ps)) ↔ (Memᴰ p ps × IsMember x s)
unfolding atom_in
member-united_in s p x ps = Iff.trans (member-united p x (map (atom_in s) ps)) (Iff.trans (some-over_map (λ a. (a.position ≡ p) × IsMember x a.set) (atom_in s) ps) (forth, back))
  where
    Has : ℕ → Type 0
    Has q = (q ≡ p) × IsMember x s

    forth : Some Has ps → Memᴰ p ps × IsMember x s
    forth t = let found = listed_of_some Has ps t in (subst (λ (q : ℕ). Memᴰ q ps) found.2.0 found.1, found.2.1)

    back : Memᴰ p ps × IsMember x s → Some Has ps
    back t = some_of_listed Has t.0 (refl, t.1)

-- it is settled exactly if some named position has its room inside the set
settled_in : (box : List ℕ) (s : ℕ) (ps : List ℕ) → T (settled_clause box (map (atom_in s) ps)) ↔ Some (λ p. T (inside (room_at box p) s)) ps
unfolding settled_clause atom_in
settled_in box s ps =
    Iff.trans (settled_some (map (atom_in s) ps) (map (atom_in s) ps) box)
    (Iff.trans (some-over_map (λ a. ShowsSettled (map (atom_in s) ps) box a.position) (atom_in s) ps)
    (some_same (ShowsSettled (map (atom_in s) ps) box) (λ p. T (inside (room_at box p) s)) ps (λ p t. rw (same p t) Iff.rfl)))
  where
    same : (p : ℕ) → Memᴰ p ps → united p (map (atom_in s) ps) ≡ s
    same p t = member_extensional (united p (map (atom_in s) ps)) s (λ x. (λ u. ((member-united_in s p x ps).0 u).1, λ u. (member-united_in s p x ps).1 (t, u)))

module _ (box : List ℕ) (s : ℕ) (low : s < 2 ^ 32) (p : ℕ) (ps : List ℕ) where
  -- a position is live in it exactly if it is named and its room shares a value with the set
  live_in : T (is_live (map (atom_in s) ps) p (room_at box p)) ↔ (Memᴰ p ps × Shared (room_at box p) s)
  unfolding is_live
  live_in = Iff.trans (meets_shared (room_at box p) sets mask) (
    λ h. let named = (member-united_in s p h.0 ps).0 h.2 in (named.0, (h.0, h.1, named.1)),
    λ h. (h.1.0, h.1.1, (member-united_in s p h.1.0 ps).1 (h.0, h.1.2)),
  )
    where
      sets : ℕ
      sets = united p (map (atom_in s) ps)

      mask : common (room_at box p) sets < 2 ^ 32
      mask =
          inside_below (common (room_at box p) sets) s ((inside_iff (common (room_at box p) sets) s).1
          (λ x t. ((member-united_in s p x ps).0 ((member-common x (room_at box p) sets).0 t).1).1)) low

  -- live in it where it is not settled
  live_unsettled_in : T (live_unsettled box p (one_of (map (atom_in s) ps))) ↔ ((Memᴰ p ps × Shared (room_at box p) s) × (Some (λ q. T (inside (room_at box q) s)) ps → ⊥))
  live_unsettled_in =
      let done = settled_clause box (map (atom_in s) ps) in
      let by = settled_in box s ps in
      Iff.trans (both_hold (is_live (map (atom_in s) ps) p (room_at box p)) (not done))
      (Iff.and live_in (λ t h. T_not done t (by.1 h), λ f. not_T done (λ t. f (by.0 t))))

-- ---- the clauses of an equality

-- the set that the room of a named position has to meet, by whether it lies inside M: the values that are not taken, else M
abbrev pub to_meet : Bool → ℕ → ℕ → ℕ
to_meet true m left = left
to_meet false m left = m

module _ (box : List ℕ) (m : ℕ) (low : m < 2 ^ 32) (ps : List ℕ) (masks : (p : ℕ) → Memᴰ p ps → room_at box p < 2 ^ 32) (p : ℕ) where
  -- the position is named, and its room shares a value with the set that it has to meet
  abbrev Splits : Type 0
  Splits = Memᴰ p ps × Shared (room_at box p) (to_meet (inside (room_at box p) m) m (untaken box m ps))

  -- it is live in a part that is not settled; in some one of each kind of clause
  abbrev Live : Part → Type 0
  Live part = T (live_unsettled box p part)

  over-positions : Some Live (each_inside m ps) ↔ Some (λ q. Live (one_of (atom_in m q ∷ []))) ps
  over-positions = some-over_map Live (λ q. one_of (atom_in m q ∷ [])) ps

  over-values : Some Live (each_taken m ps) ↔ Some (λ x. Live (one_of (map (atom_in (single x)) ps))) (values m)
  over-values = some-over_map Live (λ x. one_of (map (atom_in (single x)) ps)) (values m)

  -- live in a clause that is not settled: the position splits
  live_splits : T (live_in_rule box p (equality m ps)) → Splits
  unfolding parts_of equality_parts
  live_splits t = ⊎_elim inside-clause taken-clause ((some-over-append Live (each_inside m ps) (each_taken m ps)).0 ((some_of_holds (live_unsettled box p) (equality_parts m ps)).0 t))
    where
      either : (x : ℕ) → IsMember x (room_at box p) → IsMember x m → IsMember x (untaken box m ps) → (b : Bool) → Shared (room_at box p) (to_meet b m (untaken box m ps))
      either x t u free true = (x, t, free)
      either x t u free false = (x, t, u)

      inside-clause : Some Live (each_inside m ps) → Splits
      inside-clause s =
          let found = listed_of_some (λ q. Live (one_of (atom_in m q ∷ []))) ps (over-positions.0 s) in
          let live = (live_unsettled_in box m low p (found.0 ∷ [])).0 found.2 in
          let same : p ≡ found.0 = Memᴰ.eq_of_singleton live.0.0 in
          let within = inside (room_at box found.0) m in
          let outside : within ≡ false = (fails_false within).0 (not_T within (λ i. live.1 (inl i))) in
          (subst (λ (q : ℕ). Memᴰ q ps) (sym same) found.1, rw (same, outside) (rw same at live.0.1))

      taken-clause : Some Live (each_taken m ps) → Splits
      taken-clause s =
          let found = listed_of_some (λ x. Live (one_of (map (atom_in (single x)) ps))) (values m) (over-values.0 s) in
          let live = (live_unsettled_in box (single found.0) (single_below found.0) p ps).0 found.2 in
          let shared = live.0.1 in
          let value = member_of_listed m found.0 found.1 in
          let there : IsMember found.0 (room_at box p) = subst (λ (x : ℕ). IsMember x (room_at box p)) ((member-single found.0 shared.0).0 shared.2).2 shared.1 in
          (live.0.0, either found.0 there value ((member-untaken box m low ps masks found.0).1 (value, live.1)) (inside (room_at box p) m))

  -- and then the room has two or more values, and the position is live in a clause that is not settled
  splits_live : Splits → (2 ≤ count (room_at box p)) × T (live_in_rule box p (equality m ps))
  unfolding parts_of equality_parts
  splits_live h = go (inside (room_at box p) m) refl h.1
    where
      room : ℕ
      room = room_at box p

      rule : Some Live (each_inside m ps) ⊎ Some Live (each_taken m ps) → T (live_in_rule box p (equality m ps))
      rule s = (some_of_holds (live_unsettled box p) (equality_parts m ps)).1 ((some-over-append Live (each_inside m ps) (each_taken m ps)).1 s)

      go : (b : Bool) → inside room m ≡ b → Shared room (to_meet b m (untaken box m ps)) → (2 ≤ count room) × T (live_in_rule box p (equality m ps))
      go true e (x, t, u) =
          let value = (member-untaken box m low ps masks x).0 u in
          let range = member_range x m low value.0 in
          let one = (member-single x x).1 (range.0, range.1, refl) in
          let live = (live_unsettled_in box (single x) (single_below x) p ps).1 ((h.0, (x, t, one)), value.1) in (
            partly-inside_two room (single x) x (masks p h.0) t one (λ i. value.1 (some_of_listed (λ q. T (inside (room_at box q) (single x))) h.0 i)),
            rule (inr (over-values.1 (some_of_listed (λ y. Live (one_of (map (atom_in (single y)) ps))) (listed_of-member m x low value.0) live))),
          )
      go false e (x, t, u) =
          let outside : T (inside room m) → ⊥ = λ i. subst T e i in
          let live = (live_unsettled_in box m low p (p ∷ [])).1 ((Memᴰ.head refl, (x, t, u)), ⊎_elim outside (λ s. s)) in (
            partly-inside_two room m x (masks p h.0) t u outside,
            rule (inl (over-positions.1 (some_of_listed (λ q. Live (one_of (atom_in m q ∷ []))) h.0 live))),
          )

-- ---- where step 4 may split because of it

-- whether the room of a named position shares a value with the set that it has to meet
abbrev pub splits_of : List ℕ → ℕ → ℕ → ℕ → Bool
splits_of box m left p = meets (room_at box p) (to_meet (inside (room_at box p) m) m left)

module _ (box : List ℕ) (m : ℕ) (low : m < 2 ^ 32) (ps : List ℕ) (masks : (p : ℕ) → Memᴰ p ps → room_at box p < 2 ^ 32) (i : ℕ) where
  -- step 4 may split the room at an index because of the equality exactly if some named position is such a one
  pub splits_some : T (splits_by box (equality m ps) i) ↔ T (some_of (named_at (splits_of box m (untaken box m ps)) i) ps)
  unfolding room_at
  splits_some = (forth, back)
    where
      meet : ℕ
      meet = to_meet (inside (room_at box (i + 1)) m) m (untaken box m ps)

      some : T (some_of (named_at (splits_of box m (untaken box m ps)) i) ps) ↔ (Memᴰ (i + 1) ps × T (splits_of box m (untaken box m ps) (i + 1)))
      some = named_some (splits_of box m (untaken box m ps)) ps i

      shares : Memᴰ (i + 1) ps → T (splits_of box m (untaken box m ps) (i + 1)) ↔ Shared (room_at box (i + 1)) meet
      shares t = meets_shared (room_at box (i + 1)) meet (common_below (room_at box (i + 1)) meet (masks (i + 1) t))

      forth : T (splits_by box (equality m ps) i) → T (some_of (named_at (splits_of box m (untaken box m ps)) i) ps)
      forth t =
          let splits = live_splits box m low ps masks (i + 1) ((wide-and box i (live_in_rule box (i + 1) (equality m ps))).0 t).1 in
          some.1 (splits.0, (shares splits.0).1 splits.1)

      back : T (some_of (named_at (splits_of box m (untaken box m ps)) i) ps) → T (splits_by box (equality m ps) i)
      back t =
          let found = some.0 t in
          let live = splits_live box m low ps masks (i + 1) (found.0, (shares found.0).0 found.1) in
          let room : room_at box (i + 1) ≡ get_or box i 0 = ap (λ (k : ℕ). get_or box k 0) (omega arith) in
          (wide-and box i (live_in_rule box (i + 1) (equality m ps))).1 (subst (λ (r : ℕ). 2 ≤ count r) room live.0, live.1)
