-- The place of a reply (R-3): at NONE with no split that of the field first found dead, `none-dead` and `dead-none`; and 0 at every other end, `search-placeless`. Assumes nothing.
use mathlib.Core.Path.{◌≡◌, refl, ap}
use mathlib.Core.Bool.{cond}
use mathlib.Core.List.{List}
use Prim.Native.Nat.{ℕ, ◌+◌}
use native.Mathlib.Omega.{arith}
use lib.Dec.{leb}
use borrow.Author.Tests.{ne_eqb}
use Rattle.rules.specs.Rules.{Field}
use Rattle.steps.specs.Boxes.{Rooms}
use Rattle.steps.specs.Shrinking.{dead, shrunk}
use Rattle.steps.specs.FirstDead.{FirstDead}
use Rattle.steps.specs.Reply.{Reply, none}
use Rattle.steps.specs.Search.{nowhere, searched}
use Rattle.steps.proofs.Looks.DeadField.{shrunk-first-dead}
use Rattle.steps.proofs.Looks.FittingRules.{FitsBox}
use Rattle.steps.proofs.Search.Counts.{walk_counts}
use Rattle.steps.proofs.Search.Split.{after_none, by_allowance}
use Rattle.steps.proofs.Search.Tree.{Tree, dies, settles, divides, tree}
use Rattle.steps.proofs.Search.Walk.{walk, search-dead, searched_walks}

-- NONE, with no split
abbrev pub NoneAtOnce : Reply → Type 0
NoneAtOnce r = (r.number ≡ 1) × (r.splits ≡ 0)

-- every other reply of a search has place 0
abbrev pub Placeless : Reply → Type 0
Placeless r = (NoneAtOnce r → ⊥) → r.place ≡ 0

module _ {fields : List Field} where
  walk-placeless : {box : List ℕ} (t : Tree fields box) (allowed s d : ℕ) → Placeless (walk t (leb allowed) s d)
  walk-placeless (dies place rooms e) allowed s d = λ other. ap (λ b. cond b place 0) (ne_eqb s 0 (λ none. other (refl, none)))
  walk-placeless (settles m t) allowed s d = λ other. refl
  walk-placeless (divides m u at p f o) allowed s d =
      let first = walk f (leb allowed) (s + 1) d in
      let later = walk o (leb allowed) in
      by_allowance first later Placeless allowed s d (λ spent other. refl)
      (λ left. after_none first later Placeless (λ e. walk-placeless o allowed first.splits first.dead_ends) (λ ne. walk-placeless f allowed (s + 1) d))

  -- a box whose search gives NONE with no split is dead, at the reply's place
  walk-dead : {box : List ℕ} (t : Tree fields box) (allowed d : ℕ) → NoneAtOnce (walk t (leb allowed) 0 d) → shrunk fields box ≡ dead (walk t (leb allowed) 0 d).place
  walk-dead (dies place rooms e) allowed d now = e
  walk-dead (settles m t) allowed d now = absurd (omega (arith, now.0))
  walk-dead (divides m u at p f o) allowed d now = absurd (split_counts now)
    where
      first : Reply
      first = walk f (leb allowed) 1 d

      later : ℕ → ℕ → Reply
      later = walk o (leb allowed)

      split_counts : NoneAtOnce (walk (divides m u at p f o) (leb allowed) 0 d) → ⊥
      split_counts =
          by_allowance first later (λ r. NoneAtOnce r → ⊥) allowed 0 d (λ spent n. omega (arith, n.0))
          (λ left. after_none first later (λ r. NoneAtOnce r → ⊥)
          (λ e n. let begun = walk_counts f allowed 1 d (omega arith) in
          omega (arith, n.1, begun.more, (walk_counts o allowed first.splits first.dead_ends begun.within).more))
          (λ ne n. ne n.0))

-- ---- the search of a box

module _ (fields : List Field) (box : List ℕ) (rooms : Rooms box) where
  -- where a field is first found dead, the reply is NONE at its place, with no split and one dead end, whatever is allowed
  pub dead-none : (allowed place : ℕ) → FirstDead fields box place → searched fields allowed box 0 0 ≡ none place 0 1
  unfolding searched
  dead-none allowed place h = search-dead fields box place ((shrunk-first-dead fields box place rooms).1 h) nowhere _ (leb allowed) 0 0

  module _ (fits : FitsBox fields box) (allowed : ℕ) where
    -- NONE with no split carries the place of the field first found dead
    pub none-dead : NoneAtOnce (searched fields allowed box 0 0) → FirstDead fields box (searched fields allowed box 0 0).place
    none-dead =
        let t = tree fields box rooms fits in
        rw (searched_walks t allowed 0 0) (λ now. (shrunk-first-dead fields box _ rooms).0 (walk-dead t allowed 0 now))

    -- every other reply has place 0
    pub search-placeless : (s d : ℕ) → Placeless (searched fields allowed box s d)
    search-placeless s d = let t = tree fields box rooms fits in rw (searched_walks t allowed s d) (walk-placeless t allowed s d)
