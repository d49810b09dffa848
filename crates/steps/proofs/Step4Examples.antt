-- Step 4 by example: which room of a box is split, by computation. The rooms are as shrinking leaves them, but for the last example, a dead box. Assumes nothing.
use mathlib.Core.Path.{◌≡◌, refl}
use mathlib.Core.List.{List, [], ◌∷◌, map}
use Prim.Native.Nat.{ℕ}
use Rattle.sets.specs.Sets.{single, union, common, in_range, only_if, is_empty, inside, listed_if, values_from, values, count}
use Rattle.lists.specs.Lists.{Every}
use Rattle.lists.specs.Lowest.{lowest}
use Rattle.lists.specs.Passing.{passing}
use Rattle.rules.specs.declared.field.Atom.{Atom}
use Rattle.rules.specs.Rules.{Rule, clause, equality, at_most}
use Rattle.rules.specs.Reading.{named}
use Rattle.rules.specs.Parts.{atom_in, equality_parts, parts_of}
use Rattle.steps.specs.Boxes.{room_at}
use Rattle.steps.specs.Shrinking.{unite_if, united, is_live, settled_by, settled_clause, meeting_count, settled_at_most, is_live_at_most, some_of}
use Rattle.steps.specs.Search.{splittable, chosen}

-- rules, a box, and the index of the room that is split: one less than its position, and the number of rooms where there is none
pub record Example : Type 0 where
  pub rules : List Rule
  pub box : List ℕ
  pub index : ℕ

abbrev example : List Rule → List ℕ → ℕ → Example
example rules box index = record { rules = rules; box = box; index = index }

-- the set of this mask at position p
abbrev at : ℕ → ℕ → Atom
at p m = record { position = p; set = m }

-- three rooms {1,2}
abbrev three : List ℕ
three = 3 ∷ 3 ∷ 3 ∷ []

-- no rule: no room is split
abbrev no-rules : Example
no-rules = example [] three 3

-- [p2{1} p3{1}]: position 1 is live in nothing
abbrev unnamed : Example
unnamed = example (clause (at 2 1 ∷ at 3 1 ∷ []) ∷ []) three 1

-- [p1{1} p1{2}], [p2{1} p3{1}]: position 1 is live in a clause that its united sets settle, and in no other
abbrev settled_by_its_own : Example
settled_by_its_own = example (clause (at 1 1 ∷ at 1 2 ∷ []) ∷ clause (at 2 1 ∷ at 3 1 ∷ []) ∷ []) three 1

-- [p1{1} p2{1,2}], [p2{1} p3{1}]: position 1 is live in a clause that room 2 settles
abbrev settled_by_another : Example
settled_by_another = example (clause (at 1 1 ∷ at 2 3 ∷ []) ∷ clause (at 2 1 ∷ at 3 1 ∷ []) ∷ []) three 1

-- [p1{3} p2{1} p3{1}]: position 1 is named in a clause that is not settled, and not live in it
abbrev named-and-not_live : Example
named-and-not_live = example (clause (at 1 4 ∷ at 2 1 ∷ at 3 1 ∷ []) ∷ []) three 1

-- [p2{1} p3{1}], [p1{2} p2{2}]: position 1 is live in the later clause
abbrev later-clause : Example
later-clause = example (clause (at 2 1 ∷ at 3 1 ∷ []) ∷ clause (at 1 2 ∷ at 2 2 ∷ []) ∷ []) three 0

-- {1,2,3} equals the values of 1 to 4, rooms {1,2} {1} {2,3} {2,3}: "one of them is in {1}" is settled by 2, and position 1 is live in "one of them is in {2}"
abbrev by_another_value : Example
by_another_value = example (equality 7 (1 ∷ 2 ∷ 3 ∷ 4 ∷ []) ∷ []) (3 ∷ 1 ∷ 6 ∷ 6 ∷ []) 0

-- {1,2,3} equals the values of 1 to 5, rooms {1,2} {1} {2} {2,3} {2,3}: position 1 is live in settled clauses alone, and 4 in "one of them is in {3}"
abbrev clause-by-clause : Example
clause-by-clause = example (equality 7 (1 ∷ 2 ∷ 3 ∷ 4 ∷ 5 ∷ []) ∷ []) (3 ∷ 1 ∷ 2 ∷ 6 ∷ 6 ∷ []) 3

-- at most two of 1 to 4 in {3}, room 1 {3}: position 1 is live with one value, and is passed over
abbrev live_with_one_value : Example
live_with_one_value = example (at_most 2 4 (1 ∷ 2 ∷ 3 ∷ 4 ∷ []) ∷ []) (4 ∷ 7 ∷ 7 ∷ 7 ∷ []) 1

-- at most two of 1 to 3 in {1,2}, rooms {1,2} {1,3} {1,3}: room 1 lies inside, and is live as long as more than two meet the set
abbrev inside-and_live : Example
inside-and_live = example (at_most 2 3 (1 ∷ 2 ∷ 3 ∷ []) ∷ []) (3 ∷ 5 ∷ 5 ∷ []) 0

-- at most one of 1 to 3 in {1}, rooms {2,3} {1,2} {1,2}: position 1 is named, and its room does not meet the set
abbrev named-and_apart : Example
named-and_apart = example (at_most 1 1 (1 ∷ 2 ∷ 3 ∷ []) ∷ []) (6 ∷ 3 ∷ 3 ∷ []) 1

-- the same with room 3 {2,3} as well: one room alone meets the set, and the rule is settled
abbrev one_room-meets : Example
one_room-meets = example (at_most 1 1 (1 ∷ 2 ∷ 3 ∷ []) ∷ []) (6 ∷ 3 ∷ 6 ∷ []) 3

-- [p1{2}], room {1}: a box that is dead is not settled, and has no room to split
abbrev dead-box : Example
dead-box = example (clause (at 1 2 ∷ []) ∷ []) (1 ∷ []) 1

abbrev pub examples : List Example
examples = no-rules ∷ unnamed ∷ settled_by_its_own ∷ settled_by_another ∷ named-and-not_live ∷ later-clause ∷ by_another_value ∷ clause-by-clause ∷ live_with_one_value ∷ inside-and_live ∷ named-and_apart ∷ one_room-meets ∷ dead-box ∷ []

-- the chosen index of an example is the one that it names; the places of fields play no part
abbrev pub Chosen : Example → Type 0
Chosen e = chosen (map (λ rule. record { place = 0; rule = rule }) e.rules) e.box ≡ e.index

-- each of them
pub examples_hold : Every Chosen examples
unfolding single union common in_range only_if is_empty inside listed_if values_from values count lowest atom_in equality_parts parts_of room_at unite_if united is_live settled_by settled_clause some_of splittable chosen passing named meeting_count settled_at_most is_live_at_most
examples_hold = (refl, (refl, (refl, (refl, (refl, (refl, (refl, (refl, (refl, (refl, (refl, (refl, (refl, tt)))))))))))))
