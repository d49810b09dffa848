-- The search with an allowance against the search without one: enough splits allowed, or too few. Assumes nothing.
use mathlib.Core.Path.{◌≡◌, refl, sym, ap, ◌∙◌}
use mathlib.Core.Logic.{◌⊎◌, inl, inr, ⊎_elim}
use mathlib.Core.List.{List}
use Prim.Native.Nat.{ℕ, ◌+◌, ◌≤◌, ◌<◌}
use native.Mathlib.Decide.{dec_le}
use native.Mathlib.Omega.{arith}
use lib.Dec.{leb}
use borrow.Author.Tests.{lt-leb}
use Rattle.rules.specs.Rules.{Field}
use Rattle.steps.specs.Boxes.{Rooms}
use Rattle.steps.specs.Reply.{Reply}
use Rattle.steps.specs.Search.{if_none, searched, never, explored}
use Rattle.steps.proofs.Looks.FittingRules.{FitsBox}
use Rattle.steps.proofs.Search.Split.{none_later, other_stays, after_none, by_allowance}
use Rattle.steps.proofs.Search.Tree.{Tree, dies, settles, divides, tree}
use Rattle.steps.proofs.Search.Walk.{walk, searched_walks, explored_walks}

-- the splits needed are allowed, or they are not
pub enough-or-not : (needed allowed : ℕ) → (needed ≤ allowed) ⊎ (allowed < needed)
enough-or-not needed allowed = go (dec_le needed allowed)
  where
    go : Dec (needed ≤ allowed) → (needed ≤ allowed) ⊎ (allowed < needed)
    go (yes h) = inl h
    go (no h) = inr (omega arith)

-- a search counts on from the splits that it is given
pub walk_more : {fields : List Field} {box : List ℕ} (t : Tree fields box) (s d : ℕ) → s ≤ (walk t never s d).splits
walk_more (dies place rooms e) s d = omega arith
walk_more (settles m t) s d = omega arith
walk_more (divides m u at p f o) s d =
    let first = walk f never (s + 1) d in
    let more = walk_more f (s + 1) d in
    after_none first (walk o never) (λ (r : Reply). s ≤ r.splits) (λ e. omega (arith, walk_more o first.splits first.dead_ends)) (λ ne. omega arith)

module _ {fields : List Field} {first other : List ℕ} (f : Tree fields first) (o : Tree fields other) (s d : ℕ) where
  -- so a split takes the splits of its first half at least
  splits-least : (walk f never (s + 1) d).splits ≤ (if_none (walk f never (s + 1) d) (walk o never)).splits
  splits-least =
      let begun = walk f never (s + 1) d in
      after_none begun (walk o never) (λ (r : Reply). begun.splits ≤ r.splits) (λ e. walk_more o begun.splits begun.dead_ends) (λ ne. omega arith)

-- with enough splits allowed, the reply is that without an allowance
walk-enough : {fields : List Field} {box : List ℕ} (t : Tree fields box) (allowed s d : ℕ) → (walk t never s d).splits ≤ allowed
    → walk t (leb allowed) s d ≡ walk t never s d
walk-enough (dies place rooms e) allowed s d h = refl
walk-enough (settles m t) allowed s d h = refl
walk-enough (divides m u at p f o) allowed s d h =
    let first = walk f never (s + 1) d in
    let least = splits-least f o s d in
    let begun = walk-enough f allowed (s + 1) d (omega arith) in
    rw (lt-leb allowed s (omega (arith, walk_more f (s + 1) d)), begun)
    (after_none first (walk o never) (λ (r : Reply). r.splits ≤ allowed → if_none first (walk o (leb allowed)) ≡ r)
    (λ e g. none_later first (walk o (leb allowed)) e ∙ walk-enough o allowed first.splits first.dead_ends g)
    (λ ne g. other_stays first (walk o (leb allowed)) ne) h)

-- all that was allowed is spent, and nothing is decided
abbrev pub Spent : ℕ → Reply → Type 0
Spent allowed r = (r.number ≡ 2) × (r.splits ≡ allowed)

-- with fewer, it is undecided
walk_too-few : {fields : List Field} {box : List ℕ} (t : Tree fields box) (allowed s d : ℕ) → s ≤ allowed → allowed < (walk t never s d).splits
    → Spent allowed (walk t (leb allowed) s d)
walk_too-few (dies place rooms e) allowed s d h g = absurd (omega arith)
walk_too-few (settles m t) allowed s d h g = absurd (omega arith)
walk_too-few (divides m u at p f o) allowed s d h g =
    let first = walk f never (s + 1) d in
    let begun = walk f (leb allowed) (s + 1) d in
    let later = walk o (leb allowed) in
    by_allowance begun later (Spent allowed) allowed s d (λ spent. omega arith)
    (λ left. ⊎_elim
    (λ m. rw (walk-enough f allowed (s + 1) d m)
    (after_none first (walk o never) (λ (r : Reply). allowed < r.splits → Spent allowed (if_none first later))
    (λ e i. rw (none_later first later e) (walk_too-few o allowed first.splits first.dead_ends m i)) (λ ne i. absurd (omega arith)) g))
    (λ m. let spent = walk_too-few f allowed (s + 1) d (omega arith) m in rw (other_stays begun later (λ e. omega (arith, e, spent.0))) spent)
    (enough-or-not first.splits allowed))

module _ (fields : List Field) (box : List ℕ) (rooms : Rooms box) (fits : FitsBox fields box) (allowed : ℕ) where
  -- a search with enough splits allowed is the search without an allowance
  pub enough-allowed : (explored fields box).splits ≤ allowed → searched fields allowed box 0 0 ≡ explored fields box
  enough-allowed h =
      let t = tree fields box rooms fits in
      let same = explored_walks t in
      searched_walks t allowed 0 0 ∙ walk-enough t allowed 0 0 (omega (arith, ap (λ (r : Reply). r.splits) same)) ∙ sym same

  -- a search with too few spends them all and is undecided
  pub too-few-allowed : allowed < (explored fields box).splits → Spent allowed (searched fields allowed box 0 0)
  too-few-allowed h =
      let t = tree fields box rooms fits in
      rw (searched_walks t allowed 0 0) (walk_too-few t allowed 0 0 (omega arith) (omega (arith, ap (λ (r : Reply). r.splits) (explored_walks t))))
