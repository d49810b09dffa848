-- The six laws of a part of a rule, for each kind of part by the laws of that kind. What stands above looks inside no part. Assumes nothing.
use mathlib.Core.List.{List}
use Prim.Native.Nat.{ℕ, ◌≤◌}
use lib.Dec.{T}
use lib.ListN.{length}
use Rattle.rules.specs.Parts.{Part, one_of, no_more_than, MeetsPart}
use Rattle.steps.specs.Boxes.{room_at}
use Rattle.steps.specs.Shrinking.{is_live_in, look_part, settled_part}
use Rattle.steps.proofs.Looks.SixLaws.{Sound, Inward, Settling, Steady, Monotone, NotLive, Names}
use Rattle.steps.proofs.Looks.AtMostLaws.{AtMostFits, at_most-sound, at_most-inside, at_most-place, at_most-settled, at_most_steady, at_most_monotone, at_most-not_live}
use Rattle.steps.proofs.Looks.ClauseLaws.{ClauseFits, clause-sound, clause-inside, clause-place, clause-settled, clause_steady, clause_monotone, clause-not_live}

-- the part names positions 1 to v, and the sets of its atoms are masks
abbrev pub PartFits : ℕ → Part → Type 0
PartFits v (one_of atoms) = ClauseFits v atoms
PartFits v (no_more_than k m ps) = AtMostFits v ps

-- p is a position of the box that is live in the part
abbrev pub LiveInPart : Part → List ℕ → ℕ → Type 0
LiveInPart part box p = (1 ≤ p) × (p ≤ length box) × T (is_live_in part p (room_at box p))

-- sound: an assignment of the box that meets the part is still in the box after the look, which is not dead
pub part_sound : (place : ℕ) (part : Part) → Sound (λ v. PartFits v part) (λ a. MeetsPart a part) (look_part place part)
part_sound place (one_of atoms) = clause-sound place atoms
part_sound place (no_more_than k m ps) = at_most-sound m ps k place

-- inside: the box after the look lies inside the box before, and no room becomes empty
pub part-inside : (place : ℕ) (part : Part) → Inward (look_part place part)
part-inside place (one_of atoms) = clause-inside place atoms
part-inside place (no_more_than k m ps) = at_most-inside m ps k place

-- settled: every assignment of a settled box meets the part
pub part-settled : (part : Part) → Settling (λ v. PartFits v part) (λ a. MeetsPart a part) (λ box. settled_part box part)
part-settled (one_of atoms) = clause-settled atoms
part-settled (no_more_than k m ps) = at_most-settled m ps k

-- steady: where the look changes nothing and the part is not settled, a live position has two or more values
pub part_steady : (place : ℕ) (part : Part) → Steady (λ v. PartFits v part) (LiveInPart part) (look_part place part) (λ box. settled_part box part)
part_steady place (one_of atoms) = clause_steady place atoms
part_steady place (no_more_than k m ps) = at_most_steady m ps k place

-- monotone: a smaller box gives a smaller result, and where the larger is dead so is the smaller
pub part_monotone : (place : ℕ) (part : Part) → Monotone (look_part place part)
part_monotone place (one_of atoms) = clause_monotone place atoms
part_monotone place (no_more_than k m ps) = at_most_monotone m ps k place

-- not live: two assignments of the box that agree at every live position both meet the part or both do not
pub part-not_live : (part : Part) → NotLive (λ v. PartFits v part) (λ a. MeetsPart a part) (LiveInPart part)
part-not_live (one_of atoms) = clause-not_live atoms
part-not_live (no_more_than k m ps) = at_most-not_live m ps k

-- a dead look names the place that it was given
pub part-place : (place : ℕ) (part : Part) → Names place (look_part place part)
part-place place (one_of atoms) = clause-place place atoms
part-place place (no_more_than k m ps) = at_most-place m ps k place
