-- The search of a box that is smaller at idle positions alone comes to the same number, splits and dead ends: `walks_same`. Assumes nothing.
use mathlib.Core.Path.{◌≡◌, refl, sym, ap, ap₂, ◌∙◌, subst}
use mathlib.Core.Logic.{◌↔◌, ◌⊎◌, inl, inr, ⊎_elim}
use mathlib.Core.List.{List, [], ◌∷◌}
use Prim.Native.Nat.{ℕ, zero, suc, ◌+◌, ◌-◌, ◌≤◌, ◌<◌}
use native.Mathlib.Decide.{ℕ_discrete}
use native.Mathlib.Omega.{arith}
use lib.Dec.{T}
use lib.ListN.{length, get_or}
use Rattle.lists.specs.Lowest.{lowest}
use Rattle.lists.proofs.LowestLaws.{lowest_passes, lowest_same}
use Rattle.sets.specs.Sets.{single, count, smallest, others}
use Rattle.rules.specs.Rules.{Field}
use Rattle.steps.specs.Boxes.{room_at, open_values, smallest_of, first_half, other_half}
use Rattle.steps.specs.Shrinking.{shrunk, dead, live_in_fields}
use Rattle.steps.specs.Reply.{Reply}
use Rattle.steps.specs.Search.{splittable, chosen, if_none, search, nowhere, never}
use Rattle.steps.proofs.Boxes.BoxLaws.{box-inside-length}
use Rattle.steps.proofs.Boxes.BoxSizes.{first_half-rooms, other_half-rooms, first_half-inside, other_half-inside}
use Rattle.steps.proofs.Looks.InTurn.{dead-not-alive}
use Rattle.steps.proofs.Looks.FittingRules.{FitsBox, fits-inside}
use Rattle.steps.proofs.Looks.LiveTests.{live_in_fields_lem}
use Rattle.steps.proofs.Looks.ShrinkLaws.{LiveInFields}
use Rattle.steps.proofs.Looks.Idle.ButForIdle.{ButForIdle, SameWay, SameLooks, both-dead, both-alive, same_step_keeps, same_way-set, still_but_for_idle}
use Rattle.steps.proofs.Looks.Idle.Shrinking.{fields_stay_idle, fields_stay_live, settled_same, shrunk-looks_same}
use Rattle.steps.proofs.Search.Split.{none_later, other_stays}
use Rattle.steps.proofs.Search.Chosen.{SplitAt, may_split, chosen-splits}
use Rattle.steps.proofs.Search.Tree.{Shrinks, shrinks, Tree, dies, settles, divides, first_smaller, other_smaller}
use Rattle.steps.proofs.Search.Walk.{walk, search_walks}
use Rattle.steps.proofs.Search.Says.{inner_fits}

-- ---- replies with the same counts

-- the same number, splits and dead ends; and the same values too at NONE, or where S holds
pub record SameCounts (S : Type 0) (r q : Reply) : Type 0 where
  pub number : r.number ≡ q.number
  pub splits : r.splits ≡ q.splits
  pub dead_ends : r.dead_ends ≡ q.dead_ends
  pub values : (r.number ≡ 1) ⊎ S → r.values ≡ q.values

-- where more is asked for, the same values follow from it
same_counts-from : {S F : Type 0} {r q : Reply} → (S → F) → SameCounts F r q → SameCounts S r q
same_counts-from for h = record {
  number = h.number;
  splits = h.splits;
  dead_ends = h.dead_ends;
  values = ⊎_elim (λ e. h.values (inl e)) (λ s. h.values (inr (for s)));
}

-- splits whose halves have the same counts
split_same : {S F O : Type 0} → (S → F) → (S → O) → (first begun : Reply) (later on : ℕ → ℕ → Reply) → SameCounts F first begun
    → ((s d : ℕ) → SameCounts O (later s d) (on s d)) → SameCounts S (if_none first later) (if_none begun on)
split_same {S} forF forO first begun later on f o = go (ℕ_discrete first.number 1)
  where
    go : Dec (first.number ≡ 1) → SameCounts S (if_none first later) (if_none begun on)
    go (yes e) =
        rw (none_later first later e, none_later begun on (sym f.number ∙ e), ← f.splits, ← f.dead_ends) (same_counts-from forO (o first.splits first.dead_ends))
    go (no ne) = rw (other_stays first later ne, other_stays begun on (λ e. ne (f.number ∙ e))) (same_counts-from forF f)

-- ---- rooms with the same smallest values

abbrev pub SameSmallest : List ℕ → List ℕ → Type 0
SameSmallest b c = (i : ℕ) → smallest (get_or b i 0) ≡ smallest (get_or c i 0)

-- they are the smallest values of the boxes
smallest_same : (b c : List ℕ) → length b ≡ length c → SameSmallest b c → smallest_of b ≡ smallest_of c
unfolding smallest_of
smallest_same [] [] e same = refl
smallest_same [] (s ∷ c) e same = absurd (omega arith)
smallest_same (r ∷ b) [] e same = absurd (omega arith)
smallest_same (r ∷ b) (s ∷ c) e same = ap₂ ◌∷◌ (same 0) (smallest_same b c (omega arith) (λ i. same (suc i)))

-- they stay the same where the boxes change in the same way
smallest-kept : (b c b' c' : List ℕ) → SameWay b c b' c' → SameSmallest b c → SameSmallest b' c'
smallest-kept b c b' c' way same i = same_step_keeps (λ r s. smallest r ≡ smallest s) (λ x. refl) (way i) (same i)

module _ (fields : List Field) where
  -- the box c is b, but for rooms of positions that are live in no part that is not settled
  abbrev pub Idle : List ℕ → List ℕ → Type 0
  Idle b c = ButForIdle (LiveInFields fields) b c

  -- ---- shrinking and choosing

  -- both shrink to boxes that differ at idle positions alone
  shrinks_same : {b inner : List ℕ} → Shrinks fields b inner → (c : List ℕ) → FitsBox fields b → Idle b c
      → (after : List ℕ) × Shrinks fields c after × Idle inner after × SameWay b c inner after
  shrinks_same {b} {inner} m c fits h = go (shrunk-looks_same fields b c fits h)
    where
      go : SameLooks b c (shrunk fields b) (shrunk fields c) → (after : List ℕ) × Shrinks fields c after × Idle inner after × SameWay b c inner after
      go (both-dead place e f) = absurd (dead-not-alive (shrunk fields b) place inner e m.shrank)
      go (both-alive b' c' e f way) =
          let same : b' ≡ inner = cc m.shrank in
          let n = shrinks fields c c' h.smaller f in
          let here = subst (λ (box : List ℕ). SameWay b c box c') same way in
          (c', n, still_but_for_idle (fields_stay_idle fields) h (m.inside, m.rooms) (n.inside, n.rooms) here, here)

  -- where the one is dead so is the other
  dies_same : (b c : List ℕ) (place : ℕ) → shrunk fields b ≡ dead place → FitsBox fields b → Idle b c → shrunk fields c ≡ dead place
  dies_same b c place e fits h = go (shrunk-looks_same fields b c fits h)
    where
      go : SameLooks b c (shrunk fields b) (shrunk fields c) → shrunk fields c ≡ dead place
      go (both-dead q f g) = cc
      go (both-alive b' c' f g way) = absurd (dead-not-alive (shrunk fields b) place b' e f)

  module _ {b c : List ℕ} (fits : FitsBox fields b) (h : Idle b c) where
    -- both have as many rooms
    long : length c ≡ length b
    long = box-inside-length c b h.inside

    -- what is live in a part of the one that is not settled is so in the other
    live_same : (i : ℕ) → i < length b → T (live_in_fields fields b (i + 1)) ↔ T (live_in_fields fields c (i + 1))
    live_same i l =
        let in_b = live_in_fields_lem b (i + 1) (omega arith) (omega arith) fields in
        let in_c = live_in_fields_lem c (i + 1) (omega arith) (omega (arith, long)) fields in
        (λ t. in_c.1 (fields_stay_live fields b c fits h (i + 1) (in_b.0 t)), λ t. in_b.1 (fields_stay_idle fields b c (i + 1) h.smaller h.inside (in_c.0 t)))

    -- and the room is the same
    live_room_same : (i : ℕ) → i < length b → T (live_in_fields fields b (i + 1)) → get_or b i 0 ≡ get_or c i 0
    unfolding room_at
    live_room_same i l t =
        let here : i + 1 - 1 ≡ i = omega arith in
        subst (λ (j : ℕ). get_or b j 0 ≡ get_or c j 0) here (h.same (i + 1) ((live_in_fields_lem b (i + 1) (omega arith) (omega arith) fields).0 t))

    -- so the same rooms may be split
    splittable_same : (i : ℕ) → i < length b → T (splittable fields b i) ↔ T (splittable fields c i)
    splittable_same i l = (forth, back)
      where
        forth : T (splittable fields b i) → T (splittable fields c i)
        forth t =
            let may = (may_split fields b i).0 t in
            (may_split fields c i).1 (subst (λ (r : ℕ). 2 ≤ count r) (live_room_same i l may.1) may.0, (live_same i l).0 may.1)

        back : T (splittable fields c i) → T (splittable fields b i)
        back t =
            let may = (may_split fields c i).0 t in
            let live = (live_same i l).1 may.1 in
            (may_split fields b i).1 (subst (λ (r : ℕ). 2 ≤ count r) (sym (live_room_same i l live)) may.0, live)

    -- and the same one is chosen
    chosen_same : chosen fields c ≡ chosen fields b
    unfolding chosen
    chosen_same = ap (lowest (splittable fields c)) long ∙ sym (lowest_same (splittable fields b) (splittable fields c) (length b) splittable_same)

    -- it has the same room in both
    chosen_room_same : chosen fields b < length b → get_or b (chosen fields b) 0 ≡ get_or c (chosen fields b) 0
    unfolding chosen
    chosen_room_same l = live_room_same (chosen fields b) l ((may_split fields b (chosen fields b)).0 (lowest_passes (splittable fields b) (length b) l)).1

  -- ---- halves

  module _ {b c : List ℕ} {i : ℕ} (h : Idle b c) (p : SplitAt fields b i) (q : SplitAt fields c i) (room : get_or b i 0 ≡ get_or c i 0) where
    first_way : SameWay b c (first_half i b) (first_half i c)
    unfolding first_half
    first_way = same_way-set b c i (single (smallest (get_or b i 0))) (single (smallest (get_or c i 0))) p.there q.there room (ap (λ (r : ℕ). single (smallest r)) room)

    other_way : SameWay b c (other_half i b) (other_half i c)
    unfolding other_half
    other_way = same_way-set b c i (others (get_or b i 0)) (others (get_or c i 0)) p.there q.there room (ap others room)

    -- the first halves differ at idle positions alone
    first_idle : Idle (first_half i b) (first_half i c)
    first_idle =
        still_but_for_idle (fields_stay_idle fields) h
        (first_half-inside b i h.larger p.there p.two, first_half-rooms b i h.larger p.there p.two)
        (first_half-inside c i h.smaller q.there q.two, first_half-rooms c i h.smaller q.there q.two) first_way

    -- so do the others
    other_idle : Idle (other_half i b) (other_half i c)
    other_idle =
        still_but_for_idle (fields_stay_idle fields) h
        (other_half-inside b i h.larger p.there p.two, other_half-rooms b i h.larger p.there p.two)
        (other_half-inside c i h.smaller q.there q.two, other_half-rooms c i h.smaller q.there q.two) other_way

  -- ---- the search

  search_same : (k : ℕ) {b : List ℕ} (t : Tree fields b) (c : List ℕ) → FitsBox fields b → Idle b c → open_values c < k
      → (s d : ℕ) → SameCounts (SameSmallest b c) (walk t never s d) (search nowhere k fields never c s d)
  unfolding search
  search_same zero t c fits h less s d = absurd (omega arith)
  search_same (suc k) {b} (dies place rooms e) c fits h less s d =
      rw (dies_same b c place e fits h) (record { number = refl; splits = refl; dead_ends = refl; values = λ any. refl })
  search_same (suc k) {b} (settles {inner = inner} m t) c fits h less s d =
      let found = shrinks_same m c fits h in
      let after = found.0 in
      let g = found.2 in
      let long = sym (box-inside-length after inner g.inside) in
      let same : SameSmallest b c → smallest_of inner ≡ smallest_of after = λ low. smallest_same inner after long (smallest-kept b c inner after found.3 low) in
      rw (found.1.shrank, sym (settled_same fields inner after (inner_fits fields m fits) g) ∙ t)
      (record { number = refl; splits = refl; dead_ends = refl; values = ⊎_elim (λ none. absurd (omega (arith, none))) same })
  search_same (suc k) {b} (divides {inner = inner} {i = i} m u at p f o) c fits h less s d =
      let found = shrinks_same m c fits h in
      let after = found.0 in
      let n = found.1 in
      let g = found.2 in
      let fit = inner_fits fields m fits in
      let here : chosen fields after ≡ i = chosen_same fit g ∙ at in
      let there : chosen fields after < length after = omega (arith, p.there, box-inside-length after inner g.inside) in
      let q = subst (SplitAt fields after) here (chosen-splits fields after n.rooms there) in
      let room = subst (λ (j : ℕ). get_or inner j 0 ≡ get_or after j 0) at (chosen_room_same fit g (omega (arith, p.there))) in
      let low = smallest-kept b c inner after found.3 in
      let first = first_smaller n q in
      let other = other_smaller n q in
      rw (n.shrank, sym (settled_same fields inner after fit g) ∙ u, here)
      (split_same
      (λ same. smallest-kept inner after (first_half i inner) (first_half i after) (first_way g p q room) (low same))
      (λ same. smallest-kept inner after (other_half i inner) (other_half i after) (other_way g p q room) (low same))
      (walk f never (s + 1) d) (search nowhere k fields never (first_half i after) (s + 1) d) (walk o never) (search nowhere k fields never (other_half i after))
      (search_same k f (first_half i after) (fits-inside fields (first_half i inner) b (first_smaller m p).inside fits) (first_idle g p q room) (omega arith) (s + 1) d)
      (search_same k o (other_half i after) (fits-inside fields (other_half i inner) b (other_smaller m p).inside fits) (other_idle g p q room) (omega arith)))

  -- the searches of two boxes that differ at idle positions alone have the same counts
  pub walks_same : {b c : List ℕ} (t : Tree fields b) (u : Tree fields c) → FitsBox fields b → Idle b c → (s d : ℕ)
      → SameCounts (SameSmallest b c) (walk t never s d) (walk u never s d)
  walks_same {b} {c} t u fits h s d = rw (← search_walks nowhere (suc (open_values c)) u (omega arith) never s d) (search_same (suc (open_values c)) t c fits h (omega arith) s d)
