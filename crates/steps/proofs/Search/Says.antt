-- What the search says of a box is right: a plan is the first, and NONE means that there is none (`explored_says`). Assumes nothing.
use mathlib.Core.Path.{◌≡◌, refl, subst}
use mathlib.Core.Logic.{◌↔◌, ◌⊎◌, inl, inr, ⊎_elim, ⊎_map}
use mathlib.Core.List.{List}
use Prim.Native.Nat.{ℕ, ◌+◌}
use native.Mathlib.Omega.{arith}
use Rattle.lists.proofs.TestLaws.{true_test}
use Rattle.rules.specs.Rules.{Field}
use Rattle.rules.specs.Meaning.{Before}
use Rattle.steps.specs.Boxes.{InBox, Rooms, smallest_of, first_half, other_half}
use Rattle.steps.specs.Shrinking.{dead, shrunk, settled}
use Rattle.steps.specs.Reply.{Reply, plan}
use Rattle.steps.specs.Search.{if_none, never, explored}
use Rattle.steps.proofs.Boxes.BoxLaws.{in-box-inside}
use Rattle.steps.proofs.Boxes.BoxSizes.{smallest_in-box, smallest-first, first_half-inside, other_half-inside, in_a_half}
use Rattle.steps.proofs.Looks.InTurn.{dead-not-alive}
use Rattle.steps.proofs.Looks.FittingRules.{FitsBox, fits-inside}
use Rattle.steps.proofs.Looks.ShrinkLaws.{shrunk-sound, settled_met}
use Rattle.steps.proofs.Search.Split.{after_none}
use Rattle.steps.proofs.Search.Chosen.{PlanIn, First, SplitAt}
use Rattle.steps.proofs.Search.Tree.{Shrinks, Tree, dies, settles, divides, first_smaller, other_smaller, tree}
use Rattle.steps.proofs.Search.Walk.{walk, explored_walks}

-- two descriptions of the same plans
abbrev pub Same : (List ℕ → Type 0) → (List ℕ → Type 0) → Type 0
Same P Q = (a : List ℕ) → P a ↔ Q a

-- what a reply says: 0, that its values are the first of the plans; 1, that there is no plan; and nothing else is said
abbrev pub Says : (List ℕ → Type 0) → Reply → Type 0
Says Plan r = ((r.number ≡ 0) × First Plan r.values) ⊎ ((r.number ≡ 1) × ((a : List ℕ) → Plan a → ⊥))

-- what is said of some plans holds of the same plans in other words
pub says_same : (P Q : List ℕ → Type 0) (r : Reply) → Same P Q → Says P r → Says Q r
says_same P Q r same =
    ⊎_map (λ h. (h.0, ((same r.values).0 h.1.0, λ a q. h.1.1 a ((same a).1 q)))) (λ h. (h.0, λ a q. h.1 a ((same a).1 q)))

-- what is said of the plans of two halves is said of all, where the first plan of the first half comes before every plan of the other
says_split : (P F O : List ℕ → Type 0) → ((a : List ℕ) → P a ↔ (F a ⊎ O a)) → ((a b : List ℕ) → First F a → O b → Before a b)
    → (first : Reply) (later : ℕ → ℕ → Reply) → Says F first → ((s d : ℕ) → Says O (later s d)) → Says P (if_none first later)
says_split P F O both ordered first later f o =
    after_none first later (Says P)
    (λ e. ⊎_elim (λ h. absurd (omega (arith, h.0, e)))
    (λ h. says_same O P (later first.splits first.dead_ends)
    (λ a. (λ q. (both a).1 (inr q), λ q. ⊎_elim (λ i. absurd (h.1 a i)) (λ i. i) ((both a).0 q))) (o first.splits first.dead_ends)) f)
    (λ ne. ⊎_elim
    (λ h. inl (h.0, ((both first.values).1 (inl h.1.0), λ a q. ⊎_elim (h.1.1 a) (λ i. inr (ordered first.values a h.1 i)) ((both a).0 q))))
    (λ h. absurd (ne h.0)) f)

module _ (fields : List Field) where
  -- a box with a plan is not dead
  pub plan_lives : (box a : List ℕ) (place : ℕ) → Rooms box → FitsBox fields box → PlanIn fields box a → shrunk fields box ≡ dead place → ⊥
  plan_lives box a place rooms fits p e =
      let found = shrunk-sound fields box a rooms fits p.0 p.1 in
      dead-not-alive (shrunk fields box) place found.0 e found.1

  module _ {box inner : List ℕ} (m : Shrinks fields box inner) (fits : FitsBox fields box) where
    -- the rules fit the shrunk box too
    pub inner_fits : FitsBox fields inner
    inner_fits = fits-inside fields inner box m.inside fits

    -- a box shrinks to one with the same plans
    pub shrunk_plans : Same (PlanIn fields inner) (PlanIn fields box)
    shrunk_plans a = (λ p. (in-box-inside a inner box p.0 m.inside, p.1), back)
      where
        back : PlanIn fields box a → PlanIn fields inner a
        back p =
            let found = shrunk-sound fields box a m.before fits p.0 p.1 in
            let same : found.0 ≡ inner = cc (found.1, m.shrank) in
            (subst (InBox a) same found.2, p.1)

  -- the plans of a box are those of its halves
  half_plans : (box : List ℕ) (i : ℕ) → Rooms box → SplitAt fields box i → (a : List ℕ)
      → PlanIn fields box a ↔ (PlanIn fields (first_half i box) a ⊎ PlanIn fields (other_half i box) a)
  half_plans box i rooms p a = (
    λ q. ⊎_map (λ h. (h, q.1)) (λ h. (h, q.1)) (in_a_half box i rooms p.there p.two a q.0),
    ⊎_elim (λ q. (in-box-inside a (first_half i box) box q.0 (first_half-inside box i rooms p.there p.two), q.1))
        (λ q. (in-box-inside a (other_half i box) box q.0 (other_half-inside box i rooms p.there p.two), q.1)),
  )

  walk_says : {box : List ℕ} (t : Tree fields box) → FitsBox fields box → (s d : ℕ) → Says (PlanIn fields box) (walk t never s d)
  walk_says {box} (dies place rooms e) fits s d = inr (refl, λ a p. plan_lives box a place rooms fits p e)
  walk_says {box} (settles {inner = inner} m t) fits s d =
      let there = smallest_in-box inner m.rooms in
      let meets = settled_met fields inner (smallest_of inner) (inner_fits m fits) (true_test (settled fields inner) t) there in
      says_same (PlanIn fields inner) (PlanIn fields box) (plan (smallest_of inner) s d) (shrunk_plans m fits)
      (inl (refl, ((there, meets), λ a p. smallest-first inner a m.rooms p.0)))
  walk_says {box} (divides {inner = inner} {i = i} m u at p f o) fits s d =
      let first = walk f never (s + 1) d in
      says_same (PlanIn fields inner) (PlanIn fields box) (if_none first (walk o never)) (shrunk_plans m fits)
      (says_split (PlanIn fields inner) (PlanIn fields (first_half i inner)) (PlanIn fields (other_half i inner)) (half_plans inner i m.rooms p) (p.ordered (inner_fits m fits))
      first (walk o never)
      (walk_says f (fits-inside fields (first_half i inner) box (first_smaller m p).inside fits) (s + 1) d)
      (walk_says o (fits-inside fields (other_half i inner) box (other_smaller m p).inside fits)))

-- what the search without an allowance says of a box is right
pub explored_says : (fields : List Field) (box : List ℕ) → Rooms box → FitsBox fields box → Says (PlanIn fields box) (explored fields box)
explored_says fields box rooms fits = let t = tree fields box rooms fits in rw (explored_walks t) (walk_says fields t fits 0 0)
