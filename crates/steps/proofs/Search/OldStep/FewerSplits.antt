-- Step 4 of R-2 against the step before it: the search gives the same answer (`same_answer`) and never needs more splits (`fewer-splits`). Assumes nothing.
use mathlib.Core.Path.{◌≡◌, refl, sym, ap, ◌∙◌, subst}
use mathlib.Core.Logic.{◌⊎◌, inl, inr}
use mathlib.Core.List.{List}
use Prim.Native.Nat.{ℕ, zero, suc, ◌+◌, ◌-◌, ◌≤◌, ◌<◌}
use native.Mathlib.Decide.{ℕ_discrete}
use native.Mathlib.Omega.{arith}
use lib.ListN.{length, get_or, set}
use lib.Seq.{get_or-set_same, get_or-set_other}
use Rattle.lists.proofs.LowestLaws.{lowest_passes, lowest-at_most}
use Rattle.lists.proofs.TestLaws.{le_holds}
use Rattle.sets.specs.Sets.{single, count, smallest, others}
use Rattle.sets.proofs.Smallest.{smallest_range, smallest_of-single}
use Rattle.rules.specs.Rules.{Field, File}
use Rattle.rules.specs.Writing.{fields_of, Within}
use Rattle.steps.specs.Boxes.{room_at, BoxInside, open_values, Rooms, wide, first_half, other_half}
use Rattle.steps.specs.Shrinking.{alive, round}
use Rattle.steps.specs.Reply.{Reply}
use Rattle.steps.specs.Search.{chosen, if_none, never, explored}
use Rattle.steps.specs.OldStep.{lowest_wide, explore_wide, explored_wide}
use Rattle.steps.specs.Start.{start_of}
use Rattle.steps.specs.Table.{needed}
use Rattle.steps.proofs.Boxes.BoxLaws.{box-inside_refl, box-inside_antisymmetric, rooms_at}
use Rattle.steps.proofs.Boxes.BoxSizes.{open-inside}
use Rattle.steps.proofs.Boxes.BoxSizes.{first_half-rooms, other_half-rooms, first_half-inside, other_half-inside, first_half_falls, other_half_falls}
use Rattle.steps.proofs.Looks.FittingRules.{FitsBox, fits-inside}
use Rattle.steps.proofs.Looks.ShrinkLaws.{LiveInFields, shrunk-inside, fixed-inside-shrunk}
use Rattle.steps.proofs.Demands.{start}
use Rattle.steps.proofs.Search.Allowance.{walk_more}
use Rattle.steps.proofs.Search.Chosen.{chosen_two, chosen-at_most}
use Rattle.steps.proofs.Search.OldStep.IdleSearch.{SameCounts, SameSmallest, Idle, walks_same}
use Rattle.steps.proofs.Search.Says.{inner_fits}
use Rattle.steps.proofs.Search.Split.{none_later, other_stays, after_none}
use Rattle.steps.proofs.Search.Tree.{Shrinks, shrinks, Tree, dies, settles, divides, first_smaller, other_smaller, tree}
use Rattle.steps.proofs.Search.Walk.{walk, explored_walks}

-- ---- the old index

-- the room that was split has two or more values
wide_two : (box : List ℕ) → lowest_wide box < length box → 2 ≤ count (get_or box (lowest_wide box) 0)
unfolding lowest_wide
wide_two box l = (le_holds 2 (count (get_or box (lowest_wide box) 0))).0 (lowest_passes (wide box) (length box) l)

-- no room before it has
wide-lowest : (box : List ℕ) (i : ℕ) → 2 ≤ count (get_or box i 0) → lowest_wide box ≤ i
unfolding lowest_wide
wide-lowest box i two = lowest-at_most (wide box) (length box) i ((le_holds 2 (count (get_or box i 0))).1 two)

-- ---- the first half

-- the first half has the same smallest values
first_half-smallest : (box : List ℕ) (i : ℕ) → Rooms box → i < length box → SameSmallest box (first_half i box)
unfolding first_half
first_half-smallest box i rooms there j = go (ℕ_discrete j i)
  where
    range : (1 ≤ smallest (get_or box i 0)) × (smallest (get_or box i 0) ≤ 32)
    range = let room = rooms_at box i rooms there in smallest_range (get_or box i 0) room.0 room.1

    go : Dec (j ≡ i) → smallest (get_or box j 0) ≡ smallest (get_or (first_half i box) j 0)
    go (yes e) = rw (e, get_or-set_same box i (single (smallest (get_or box i 0))) 0 there) (sym (smallest_of-single (smallest (get_or box i 0)) range.0 range.1))
    go (no apart) = ap smallest (sym (get_or-set_other box i j (single (smallest (get_or box i 0))) 0 apart))

-- ---- halves at an idle index

-- the index is that of an idle position
abbrev IdleIndex : List Field → List ℕ → ℕ → Type 0
IdleIndex fields box i = (p : ℕ) → LiveInFields fields box p → p - 1 ≡ i → ⊥

-- where the old index is not the chosen one, its position is idle
wide_idle : (fields : List Field) (box : List ℕ) → chosen fields box < length box → (lowest_wide box ≡ chosen fields box → ⊥)
    → IdleIndex fields box (lowest_wide box)
wide_idle fields box l apart p live e =
    let i = lowest_wide box in
    let low = wide-lowest box (chosen fields box) (chosen_two fields box l) in
    let two = subst (λ (j : ℕ). 2 ≤ count (get_or box j 0)) (sym e) (wide_two box (omega arith)) in
    apart (omega (arith, e, chosen-at_most fields box p live two))

-- a box with a smaller room there is the box but for idle positions
set_idle : (fields : List Field) (box : List ℕ) (i r : ℕ) → IdleIndex fields box i → Rooms box → Rooms (set box i r) → BoxInside (set box i r) box
    → Idle fields box (set box i r)
unfolding room_at
set_idle fields box i r idle rooms smaller inside =
    record { larger = rooms; smaller = smaller; inside = inside; same = λ p live. sym (get_or-set_other box i (p - 1) r 0 (idle p live)) }

module _ (fields : List Field) (box : List ℕ) (i : ℕ) (idle : IdleIndex fields box i) (rooms : Rooms box) (there : i < length box) (two : 2 ≤ count (get_or box i 0)) where
  -- so is the first half
  first_half_idle : Idle fields box (first_half i box)
  unfolding first_half
  first_half_idle = set_idle fields box i (single (smallest (get_or box i 0))) idle rooms (first_half-rooms box i rooms there two) (first_half-inside box i rooms there two)

  -- and the other
  other_half_idle : Idle fields box (other_half i box)
  unfolding other_half
  other_half_idle = set_idle fields box i (others (get_or box i 0)) idle rooms (other_half-rooms box i rooms there two) (other_half-inside box i rooms there two)

-- ---- replies

-- the same number and values, at no more splits
record NoMore (r q : Reply) : Type 0 where
  pub number : r.number ≡ q.number
  pub values : r.values ≡ q.values
  pub splits : r.splits ≤ q.splits

-- a reply with the same counts and values takes no more splits either
no_more-from : {S : Type 0} {r q x : Reply} → SameCounts S r q → (r.number ≡ 1) ⊎ S → NoMore q x → NoMore r x
no_more-from h same m = record { number = h.number ∙ m.number; values = h.values same ∙ m.values; splits = omega (arith, h.splits, m.splits) }

-- a split takes no more where neither half does
split_no_more : (first begun : Reply) (later on : ℕ → ℕ → Reply) → NoMore first begun → ((s d s' d' : ℕ) → s ≤ s' → NoMore (later s d) (on s' d'))
    → NoMore (if_none first later) (if_none begun on)
split_no_more first begun later on f o = go (ℕ_discrete first.number 1)
  where
    go : Dec (first.number ≡ 1) → NoMore (if_none first later) (if_none begun on)
    go (yes e) =
        rw (none_later first later e, none_later begun on (sym f.number ∙ e)) (o first.splits first.dead_ends begun.splits begun.dead_ends f.splits)
    go (no ne) = rw (other_stays first later ne, other_stays begun on (λ e. ne (f.number ∙ e))) f

-- whatever the old search answers any deeper
module _ (deeper : List ℕ → ℕ → ℕ → Reply) (fields : List Field) where
  -- a box in which nothing is left to cut shrinks to itself
  shrinks_to_itself : (box : List ℕ) → Rooms box → round fields box ≡ alive box → Shrinks fields box box
  shrinks_to_itself box rooms fixed =
      let s = fixed-inside-shrunk fields box box rooms rooms (box-inside_refl box) fixed in
      let same = box-inside_antisymmetric s.0 box (shrunk-inside fields box s.0 rooms s.1).0 s.2 in
      shrinks fields box box rooms (s.1 ∙ ap alive same)

  -- the search of a box, from any counts, against the old one from no smaller count of splits, which may go k deep
  abbrev Against : ℕ → Type 0
  Against k = (box : List ℕ) (t : Tree fields box) → FitsBox fields box → open_values box < k → (s d s' d' : ℕ) → s ≤ s'
      → NoMore (walk t never s d) (explore_wide deeper k fields box s' d')

  -- where the old search splits at an idle index, the search of the whole box takes as many splits as that of either half
  idle_no_more : (k : ℕ) → Against k → (box : List ℕ) (t : Tree fields box) → Rooms box → FitsBox fields box → open_values box < suc k
      → (i : ℕ) → i < length box → 2 ≤ count (get_or box i 0) → IdleIndex fields box i → (s d s' d' : ℕ) → s ≤ s'
      → NoMore (walk t never s d) (if_none (explore_wide deeper k fields (first_half i box) (s' + 1) d') (explore_wide deeper k fields (other_half i box)))
  idle_no_more k rest box t rooms fits less i there two idle s d s' d' h =
      let first = first_half i box in
      let other = other_half i box in
      let fit = fits-inside fields first box (first_half-inside box i rooms there two) fits in
      let fit' = fits-inside fields other box (other_half-inside box i rooms there two) fits in
      let f = tree fields first (first_half-rooms box i rooms there two) fit in
      let o = tree fields other (other_half-rooms box i rooms there two) fit' in
      let asFirst = walks_same fields t f fits (first_half_idle fields box i idle rooms there two) s d in
      let asOther = walks_same fields t o fits (other_half_idle fields box i idle rooms there two) s d in
      let begun = explore_wide deeper k fields first (s' + 1) d' in
      let m = rest first f fit (omega (arith, first_half_falls box i rooms there two)) s d (s' + 1) d' (omega arith) in
      let so_far : s ≤ begun.splits = omega (arith, walk_more f s d, m.splits) in
      after_none begun (explore_wide deeper k fields other) (NoMore (walk t never s d))
      (λ e. no_more-from asOther (inl (asFirst.number ∙ m.number ∙ e))
      (rest other o fit' (omega (arith, other_half_falls box i rooms there two)) s d begun.splits begun.dead_ends so_far))
      (λ ne. no_more-from asFirst (inr (first_half-smallest box i rooms there)) m)

  -- so it is of every box: the old index is the chosen one, and both halves follow, or it is idle
  walk_no_more : (k : ℕ) → Against k
  unfolding explore_wide
  walk_no_more zero box t fits less s d s' d' h = absurd (omega arith)
  walk_no_more (suc k) box (dies place rooms e) fits less s d s' d' h = rw e (record { number = refl; values = refl; splits = h })
  walk_no_more (suc k) box (settles m t) fits less s d s' d' h = rw (m.shrank, t) (record { number = refl; values = refl; splits = h })
  walk_no_more (suc k) box (divides {inner = inner} {i = i} m u at p f o) fits less s d s' d' h =
      rw (m.shrank, u) (go (walk_no_more k) (ℕ_discrete (lowest_wide inner) i))
    where
      there : lowest_wide inner < length inner
      there = omega (arith, wide-lowest inner i p.two, p.there)

      go : Against k → Dec (lowest_wide inner ≡ i)
          → NoMore (if_none (walk f never (s + 1) d) (walk o never))
          (if_none (explore_wide deeper k fields (first_half (lowest_wide inner) inner) (s' + 1) d') (explore_wide deeper k fields (other_half (lowest_wide inner) inner)))
      go rest (yes e) =
          let first = first_smaller m p in
          let other = other_smaller m p in
          rw e
          (split_no_more (walk f never (s + 1) d) (explore_wide deeper k fields (first_half i inner) (s' + 1) d') (walk o never) (explore_wide deeper k fields (other_half i inner))
          (rest (first_half i inner) f (fits-inside fields (first_half i inner) box first.inside fits) (omega (arith, first.falls)) (s + 1) d (s' + 1) d' (omega arith))
          (rest (other_half i inner) o (fits-inside fields (other_half i inner) box other.inside fits) (omega (arith, other.falls))))
      go rest (no apart) =
          idle_no_more k rest inner (divides (shrinks_to_itself inner m.rooms m.fixed) u at p f o) m.rooms (inner_fits fields m fits)
          (omega (arith, open-inside inner box m.rooms m.before m.inside)) (lowest_wide inner) there (wide_two inner there)
          (wide_idle fields inner (omega (arith, at, p.there)) (λ e. apart (e ∙ at))) s d s' d' h

module _ (deeper : List ℕ → ℕ → ℕ → Reply) (fields : List Field) (box : List ℕ) (rooms : Rooms box) (fits : FitsBox fields box) where
  -- the search of a box against the old one
  no_more : NoMore (explored fields box) (explored_wide deeper fields box)
  unfolding explored_wide
  no_more = let t = tree fields box rooms fits in rw (explored_walks t) (walk_no_more deeper fields (suc (open_values box)) box t fits (omega arith) 0 0 0 0 (omega arith))

  -- it never needs more splits
  pub fewer-splits : (explored fields box).splits ≤ (explored_wide deeper fields box).splits
  fewer-splits = no_more.splits

  -- and gives the same number and values
  pub same_answer : ((explored fields box).number ≡ (explored_wide deeper fields box).number) × ((explored fields box).values ≡ (explored_wide deeper fields box).values)
  same_answer = (no_more.number, no_more.values)

-- so no file within 01's limits needs more splits than it did
pub needed_no_more : (deeper : List ℕ → ℕ → ℕ → Reply) (file : File) → Within file → needed file ≤ (explored_wide deeper (fields_of file) (start_of file)).splits
unfolding needed
needed_no_more deeper file within = fewer-splits deeper (fields_of file) (start_of file) (start file within).rooms (start file within).fits
