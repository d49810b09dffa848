-- The tree of a search: what it meets in a box, and in both halves wherever it splits, to the end of each (`tree`). Assumes nothing.
use mathlib.Core.Path.{◌≡◌, refl}
use mathlib.Core.Bool.{Bool, true, false}
use mathlib.Core.List.{List}
use Prim.Native.Nat.{ℕ, zero, suc, ◌<◌}
use native.Mathlib.Omega.{arith}
use Rattle.rules.specs.Rules.{Field}
use Rattle.steps.specs.Boxes.{open_values, BoxInside, Rooms, first_half, other_half}
use Rattle.steps.specs.Shrinking.{Look, dead, alive, round, shrunk, settled}
use Rattle.steps.specs.Search.{chosen}
use Rattle.steps.proofs.Boxes.BoxLaws.{box-inside_trans}
use Rattle.steps.proofs.Boxes.BoxSizes.{open-inside}
use Rattle.steps.proofs.Boxes.BoxSizes.{first_half-rooms, other_half-rooms, first_half-inside, other_half-inside, first_half_falls, other_half_falls}
use Rattle.steps.proofs.Looks.ShrinkLaws.{shrunk-inside, shrunk_fixed}
use Rattle.steps.proofs.Looks.FittingRules.{FitsBox, fits-inside}
use Rattle.steps.proofs.Search.AlwaysSplits.{split-there}
use Rattle.steps.proofs.Search.Chosen.{SplitAt, chosen-splits}

-- ---- smaller boxes

-- a box that shrinks to another one
pub record Shrinks (fields : List Field) (box inner : List ℕ) : Type 0 where
  pub before : Rooms box
  pub shrank : shrunk fields box ≡ alive inner
  pub inside : BoxInside inner box
  pub rooms : Rooms inner
  pub fixed : round fields inner ≡ alive inner

-- whatever a box of rooms has shrunk to is such another one
pub shrinks : (fields : List Field) (box inner : List ℕ) → Rooms box → shrunk fields box ≡ alive inner → Shrinks fields box inner
shrinks fields box inner rooms e =
    let i = shrunk-inside fields box inner rooms e in
    record { before = rooms; shrank = e; inside = i.0; rooms = i.1; fixed = shrunk_fixed fields box inner rooms e }

-- a box that is searched next: it lies inside, and has fewer open values
pub record Smaller (box half : List ℕ) : Type 0 where
  pub inside : BoxInside half box
  pub rooms : Rooms half
  pub falls : open_values half < open_values box

module _ {fields : List Field} {box inner : List ℕ} {i : ℕ} (s : Shrinks fields box inner) (p : SplitAt fields inner i) where
  -- a half of the shrunk box is
  smaller : (half : List ℕ) → BoxInside half inner → Rooms half → open_values half < open_values inner → Smaller box half
  smaller half h rooms falls = record {
    inside = box-inside_trans half inner box h s.inside;
    rooms = rooms;
    falls = omega (arith, open-inside inner box s.rooms s.before s.inside);
  }

  -- so is the first
  pub first_smaller : Smaller box (first_half i inner)
  first_smaller =
      smaller (first_half i inner) (first_half-inside inner i s.rooms p.there p.two) (first_half-rooms inner i s.rooms p.there p.two)
      (first_half_falls inner i s.rooms p.there p.two)

  -- and the other
  pub other_smaller : Smaller box (other_half i inner)
  other_smaller =
      smaller (other_half i inner) (other_half-inside inner i s.rooms p.there p.two) (other_half-rooms inner i s.rooms p.there p.two)
      (other_half_falls inner i s.rooms p.there p.two)

-- ---- the tree

-- a box is dead; or it shrinks to a box that is settled, or that is not and is split at an index
pub data Tree (fields : List Field) : List ℕ → Type 0 where
  dies : {box : List ℕ} (place : ℕ) → Rooms box → shrunk fields box ≡ dead place → Tree fields box
  settles : {box inner : List ℕ} → Shrinks fields box inner → settled fields inner ≡ true → Tree fields box
  divides : {box inner : List ℕ} {i : ℕ} → Shrinks fields box inner → settled fields inner ≡ false → chosen fields inner ≡ i → SplitAt fields inner i
      → Tree fields (first_half i inner) → Tree fields (other_half i inner) → Tree fields box

module _ (fields : List Field) where
  -- the number of open values falls from a box to its halves, and a box that is neither dead nor settled has a position to split
  grown : (k : ℕ) (box : List ℕ) → Rooms box → FitsBox fields box → open_values box < k → Tree fields box
  grown zero box rooms fits h = absurd (omega arith)
  grown (suc k) box rooms fits h = look (grown k) (shrunk fields box) refl
    where
      Rest : Type 0
      Rest = (b : List ℕ) → Rooms b → FitsBox fields b → open_values b < k → Tree fields b

      test : Rest → {inner : List ℕ} → Shrinks fields box inner → (t : Bool) → settled fields inner ≡ t → Tree fields box
      test rest s true e = settles s e
      test rest {inner} s false e =
          let p = chosen-splits fields inner s.rooms (split-there fields box inner rooms fits s.shrank e) in
          let first = first_half (chosen fields inner) inner in
          let other = other_half (chosen fields inner) inner in
          let f = first_smaller s p in
          let o = other_smaller s p in
          divides s e refl p (rest first f.rooms (fits-inside fields first box f.inside fits) (omega arith))
          (rest other o.rooms (fits-inside fields other box o.inside fits) (omega arith))

      look : Rest → (l : Look) → shrunk fields box ≡ l → Tree fields box
      look rest (dead place) e = dies place rooms e
      look rest (alive inner) e = test rest (shrinks fields box inner rooms e) (settled fields inner) refl

  -- every box of rooms that the rules fit has a tree
  pub tree : (box : List ℕ) → Rooms box → FitsBox fields box → Tree fields box
  tree box rooms fits = grown (suc (open_values box)) box rooms fits (omega arith)
