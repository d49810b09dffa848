-- How many splits a search of a box takes, and how deep they lie: `explore-bound`, `depth-bound`. Assumes nothing.
use mathlib.Core.List.{List}
use Prim.Native.Nat.{ℕ, ◌+◌, ◌≤◌, ◌<◌, max}
use native.Mathlib.Omega.{arith}
use lib.ListN.{length}
use Rattle.rules.specs.Rules.{Field}
use Rattle.steps.specs.Boxes.{spare_values, box_size, Rooms, first_half, other_half}
use Rattle.steps.specs.Reply.{Reply}
use Rattle.steps.specs.Search.{never, explored}
use Rattle.steps.proofs.Boxes.BoxLaws.{box-inside-length}
use Rattle.steps.proofs.Boxes.BoxSizes.{open_spare, spare-most, size-inside, size_positive, half_sizes}
use Rattle.steps.proofs.Looks.FittingRules.{FitsBox}
use Rattle.steps.proofs.Search.Split.{after_none}
use Rattle.steps.proofs.Search.Tree.{Tree, dies, settles, divides, first_smaller, other_smaller, tree}
use Rattle.steps.proofs.Search.Walk.{walk, explored_walks}

-- ---- the number of splits

-- splits are one less than the boxes that are dead or settled, and these share out the assignments
walk-bound : {fields : List Field} {box : List ℕ} (t : Tree fields box) (s d : ℕ) → (walk t never s d).splits < s + box_size box
walk-bound {box = box} (dies place rooms e) s d = omega (arith, size_positive box rooms)
walk-bound {box = box} (settles m t) s d = omega (arith, size_positive box m.before)
walk-bound {box = box} (divides {inner = inner} {i = i} m u at p f o) s d =
    let first = walk f never (s + 1) d in
    let begun = walk-bound f (s + 1) d in
    let later = walk-bound o first.splits first.dead_ends in
    let sum = half_sizes inner i m.rooms p.there p.two in
    let most = size-inside inner box m.rooms m.before m.inside in
    let some = size_positive (other_half i inner) (other_smaller m p).rooms in
    after_none first (walk o never) (λ (r : Reply). r.splits < s + box_size box) (λ e. omega arith) (λ ne. omega arith)

-- the splits that a search of a box needs are fewer than its assignments
pub explore-bound : (fields : List Field) (box : List ℕ) → Rooms box → FitsBox fields box → (explored fields box).splits < box_size box
explore-bound fields box rooms fits = let t = tree fields box rooms fits in rw (explored_walks t) (omega (arith, walk-bound t 0 0))

-- ---- the number of splits one below another

-- How many splits deep the search of a box goes: none where the box is dead or settled, else one more than the deeper of its
-- two halves. Both halves count, also where the first has a plan and the other is not searched: so a search goes this deep at most.
abbrev pub depth : {fields : List Field} {box : List ℕ} → Tree fields box → ℕ
depth (dies place rooms e) = 0
depth (settles m t) = 0
depth (divides m u at p f o) = 1 + max (depth f) (depth o)

-- each split takes an open value away, and one stays in each room
depth_spare : {fields : List Field} {box : List ℕ} (t : Tree fields box) → depth t ≤ spare_values box
depth_spare (dies place rooms e) = omega arith
depth_spare (settles m t) = omega arith
depth_spare {box = box} (divides {inner = inner} {i = i} m u at p f o) =
    let first = first_smaller m p in
    let other = other_smaller m p in
    omega (
      arith,
      depth_spare f,
      depth_spare o,
      first.falls,
      other.falls,
      open_spare box m.before,
      open_spare (first_half i inner) first.rooms,
      open_spare (other_half i inner) other.rooms,
      box-inside-length (first_half i inner) box first.inside,
      box-inside-length (other_half i inner) box other.inside,
    )

-- in a box of at most 64 positions a search goes at most 64 * 31 splits deep
pub depth-bound : (fields : List Field) (box : List ℕ) (rooms : Rooms box) (fits : FitsBox fields box) → length box ≤ 64 → depth (tree fields box rooms fits) ≤ 1984
depth-bound fields box rooms fits few = omega (arith, depth_spare (tree fields box rooms fits), spare-most box rooms)
