-- In every box inside the starting sets a starting set is settled, a look at it changes nothing, and it is never dead: `starts_unmoved`. Every box that the search comes to is
-- such a box: `rooms-inside`. Assumes nothing.
use mathlib.Core.Path.{◌≡◌, refl, sym, subst}
use mathlib.Core.Logic.{inl}
use mathlib.Core.Bool.{true, false}
use mathlib.Core.List.{List, [], ◌∷◌}
use Prim.Native.Nat.{ℕ, ◌-◌}
use lib.Dec.{T}
use lib.ListN.{length}
use Rattle.sets.specs.Sets.{inside}
use Rattle.sets.proofs.Sameness.{inside_iff}
use Rattle.lists.specs.Lists.{Every}
use Rattle.lists.proofs.ListLaws.{every_at, every_map_listed}
use Rattle.lists.proofs.TestLaws.{both_hold}
use Rattle.rules.specs.declared.field.Atom.{Atom}
use Rattle.rules.specs.Rules.{Rule, Field, File, clause, equality, starting, at_most}
use Rattle.rules.specs.Parts.{Part, parts_of}
use Rattle.rules.specs.Writing.{Within}
use Rattle.rules.proofs.Writing.PlaceLaws.{every_field}
use Rattle.steps.specs.Boxes.{room_at, BoxInside, Rooms, first_half, other_half}
use Rattle.steps.specs.Reached.{Reached, begins, looks, splits_first, splits_other}
use Rattle.steps.specs.Shrinking.{alive, look_part, in_turn, look_rule, look_field, all_of, settled_clause, settled_rule, settled, shrunk}
use Rattle.steps.specs.Search.{chosen}
use Rattle.steps.specs.Start.{start_of}
use Rattle.steps.proofs.Boxes.BoxLaws.{same_length, box-inside_at, box-inside_refl, box-inside_trans}
use Rattle.steps.proofs.Boxes.BoxSizes.{first_half-rooms, other_half-rooms, first_half-inside, other_half-inside}
use Rattle.steps.proofs.Looks.ClauseLaws.{settled_some}
use Rattle.steps.proofs.Looks.FittingRules.{Fits, FitsBox, fields_fit, fits-inside}
use Rattle.steps.proofs.Looks.Idle.Clauses.{settled_look}
use Rattle.steps.proofs.Looks.InTurn.{Keeps, in_turn_keeps}
use Rattle.steps.proofs.Looks.LiveLaws.{member-united}
use Rattle.steps.proofs.Looks.PartLaws.{part-inside}
use Rattle.steps.proofs.Looks.ShrinkLaws.{shrunk_keeps}
use Rattle.steps.proofs.Search.AlwaysSplits.{split-there}
use Rattle.steps.proofs.Search.Chosen.{chosen_two}
use Rattle.steps.proofs.Start.StartLaws.{StartsWith, start-positions, start_filled, start_own}

-- ---- a look at a starting set

-- the clause of one atom is settled where its position's room lies inside its set
one-settled : (a : Atom) (box : List ℕ) → T (inside (room_at box a.position) a.set) → T (settled_clause box (a ∷ []))
unfolding settled_clause
one-settled a box t =
    (settled_some (a ∷ []) (a ∷ []) box).1
    (inl ((inside_iff (room_at box a.position) _).1 λ x u. (member-united a.position x (a ∷ [])).1 (inl (refl, (inside_iff (room_at box a.position) a.set).0 t x u))))

-- the rule, where it is a starting set, is settled in the box, and a look at it changes nothing, wherever its field stands
abbrev pub Unmoved : List ℕ → Rule → Type 0
Unmoved box (clause atoms) = Unit {0}
Unmoved box (equality m ps) = Unit {0}
Unmoved box (starting a) = T (settled_rule box (starting a)) × ((place : ℕ) → look_rule place (starting a) box ≡ alive box)
Unmoved box (at_most k m ps) = Unit {0}

-- so it is where the rooms lie inside a box that has the starting set for its position
unmoved : (start box : List ℕ) (rule : Rule) → Rooms box → BoxInside box start → Fits (length box) rule → StartsWith start rule → Unmoved box rule
unfolding parts_of room_at all_of in_turn
unmoved start box (clause atoms) rooms within fits own = tt
unmoved start box (equality m ps) rooms within fits own = tt
unmoved start box (at_most k m ps) rooms within fits own = tt
unmoved start box (starting a) rooms within fits own =
    let room = room_at box a.position in
    let t : T (inside room a.set) = subst (λ (m : ℕ). T (inside room m)) own (box-inside_at box start (a.position - 1) within) in
    let so : T (settled_clause box (a ∷ [])) = one-settled a box t in
    ((both_hold (settled_clause box (a ∷ [])) true).1 (so, tt), λ place. rw (settled_look (a ∷ []) place box rooms fits.1.0 so))

module _ (file : File) (within : Within file) (box : List ℕ) (rooms : Rooms box) (smaller : BoxInside box (start_of file)) where
  -- in every box inside the starting sets: no starting set of the file changes anything, none is dead, and all are settled
  pub starts_unmoved : Every (Unmoved box) file.rules
  starts_unmoved =
      every_map_listed (StartsWith (start_of file)) (Unmoved box) file.rules
      (λ r t own. unmoved (start_of file) box r rooms smaller (every_at (Fits (length box)) fit t) own) (start_own file within)
    where
      fit : Every (Fits (length box)) file.rules
      fit =
          same_length (λ v. Every (Fits v) file.rules) box (start_of file) smaller
          (subst (λ (v : ℕ). Every (Fits v) file.rules) (sym (start-positions file)) ((every_field (Fits file.v) file).1 (fields_fit file within)))

-- ---- every box that the search comes to

-- a box that is reached lies inside the first, and none of its rooms is empty
pub reached-inside : {start box : List ℕ} → Rooms start → Reached start box → BoxInside box start × Rooms box
reached-inside {start} rooms begins = (box-inside_refl start, rooms)
reached-inside {start} rooms (looks {box = b} {box' = c} place part on e) =
    let before = reached-inside rooms on in
    let kept = part-inside place part b c before.1 e in
    (box-inside_trans c b start kept.0 before.0, kept.1)
reached-inside {start} rooms (splits_first {box = b} i on there two) =
    let before = reached-inside rooms on in
    (box-inside_trans (first_half i b) b start (first_half-inside b i before.1 there two) before.0, first_half-rooms b i before.1 there two)
reached-inside {start} rooms (splits_other {box = b} i on there two) =
    let before = reached-inside rooms on in
    (box-inside_trans (other_half i b) b start (other_half-inside b i before.1 there two) before.0, other_half-rooms b i before.1 there two)

-- what is left of a box once shrinking is over is reached where the box is: shrinking is looks at parts
pub reached-shrunk : (fields : List Field) (start : List ℕ) {box inner : List ℕ} → Rooms start → Reached start box → shrunk fields box ≡ alive inner → Reached start inner
reached-shrunk fields start {box} {inner} rooms on e =
    shrunk_keeps fields (Reached start) (in_turn_keeps look_field (Reached start) field fields) box inner (reached-inside rooms on).1 on e
  where
    part_on : (place : ℕ) (part : Part) → Keeps (Reached start) (look_part place part)
    part_on place part b c on = looks place part on

    field : (f : Field) → Keeps (Reached start) (look_field f)
    field f = in_turn_keeps (look_part f.place) (Reached start) (part_on f.place) (parts_of f.rule)

-- and so are the two halves that step 4 makes of it, where it is not settled
pub reached_halves : (fields : List Field) (start : List ℕ) {box inner : List ℕ} → Rooms start → FitsBox fields start → Reached start box → shrunk fields box ≡ alive inner
    → settled fields inner ≡ false → Reached start (first_half (chosen fields inner) inner) × Reached start (other_half (chosen fields inner) inner)
reached_halves fields start {box} {inner} rooms fits on e u =
    let before = reached-inside rooms on in
    let there = split-there fields box inner before.1 (fits-inside fields box start before.0 fits) e u in
    let two = chosen_two fields inner there in
    let here = reached-shrunk fields start rooms on e in
    (splits_first (chosen fields inner) here there two, splits_other (chosen fields inner) here there two)

module _ (file : File) (within : Within file) {box : List ℕ} (on : Reached (start_of file) box) where
  -- R-6: at every step of the search of a file all rooms lie inside the starting sets
  pub rooms-inside : BoxInside box (start_of file)
  rooms-inside = (reached-inside (start_filled file within) on).0

  -- so no starting set is ever dead, or changes a room, or is unsettled
  pub starts-never_matter : Every (Unmoved box) file.rules
  starts-never_matter = starts_unmoved file within box (reached-inside (start_filled file within) on).1 rooms-inside
