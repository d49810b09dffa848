-- Steps 1 and 2 of the search: looking at the parts of rules, shrinking, when a box is settled, and what is live in what is not. Assumes nothing.
use Rattle.std.specs.Prelude.{ℕ, zero, suc, ◌+◌, Bool, true, false, not, ◌&&◌, ◌||◌, List, [], ◌∷◌, eqb, leb, ltb}
use Rattle.sets.specs.Sets.{union, common, inside, meets, beside}
use Rattle.lists.specs.Passing.{passing}
use Rattle.rules.specs.declared.field.Atom.{Atom}
use Rattle.rules.specs.Reading.{named}
use Rattle.rules.specs.Rules.{Rule, Field}
use Rattle.rules.specs.Parts.{Part, one_of, no_more_than, parts_of}
use Rattle.steps.specs.Boxes.{room_at, with_room, open_values}

-- what a look finds: something that no assignment of the box meets, in the field with this place; or the box as it is afterwards
pub data Look : Type 0 where
  dead : ℕ → Look
  alive : List ℕ → Look

-- what comes after a look: a where it is dead, else f of the box
abbrev pub if_alive : {A : Type 0} → Look → (ℕ → A) → (List ℕ → A) → A
if_alive (dead place) a f = a place
if_alive (alive box) a f = f box

-- a where the test holds, else what comes after
abbrev pub if_test : {A : Type 0} → Bool → A → (Unit {0} → A) → A
if_test true a f = a
if_test false a f = f tt

-- ---- a clause

-- the set, where the positions are the same, united with the others
unfoldable pub unite_if : Bool → ℕ → ℕ → ℕ
unite_if true m rest = union m rest
unite_if false m rest = rest

-- the union of a position's sets in a clause
unfoldable pub united : ℕ → List Atom → ℕ
united p [] = 0
united p (a ∷ more) = unite_if (eqb a.position p) a.set (united p more)

-- whether a position with this room is live in a clause: its room meets the union of its sets
unfoldable pub is_live : List Atom → ℕ → ℕ → Bool
is_live atoms p room = meets room (united p atoms)

-- the live positions among those from p on with these rooms
unfoldable pub live_from : List Atom → ℕ → List ℕ → List ℕ
live_from atoms p [] = []
live_from atoms p (room ∷ box) = cons_if (is_live atoms p room) p (live_from atoms (p + 1) box)
  where
    cons_if : Bool → ℕ → List ℕ → List ℕ
    cons_if true q ps = q ∷ ps
    cons_if false q ps = ps

-- the position's room cut down to what it shares with the union of its sets
unfoldable pub cut : List Atom → ℕ → List ℕ → List ℕ
cut atoms p box = with_room box p (common (room_at box p) (united p atoms))

-- no live position: dead; one: its room is cut; more: nothing changes
unfoldable pub look_by : List ℕ → ℕ → List Atom → List ℕ → Look
look_by [] place atoms box = dead place
look_by (p ∷ []) place atoms box = alive (cut atoms p box)
look_by (p ∷ q ∷ ps) place atoms box = alive box

-- a look at a clause: by its live positions
unfoldable pub look_clause : ℕ → List Atom → List ℕ → Look
look_clause place atoms box = look_by (live_from atoms 1 box) place atoms box

-- some atom's position has its room inside the union of its sets in the clause
unfoldable pub settled_by : List Atom → List Atom → List ℕ → Bool
settled_by [] atoms box = false
settled_by (a ∷ more) atoms box = inside (room_at box a.position) (united a.position atoms) || settled_by more atoms box

-- a clause is settled by one of its own atoms
unfoldable pub settled_clause : List ℕ → List Atom → Bool
settled_clause box atoms = settled_by atoms atoms box

-- ---- no more than k of some positions in a set

-- how many of the positions have rooms inside the set
unfoldable pub inside_count : ℕ → List ℕ → List ℕ → ℕ
inside_count m ps box = passing (λ p. inside (room_at box p) m) ps

-- how many have rooms that meet it
unfoldable pub meeting_count : ℕ → List ℕ → List ℕ → ℕ
meeting_count m ps box = passing (λ p. meets (room_at box p) m) ps

-- the position's room, where it does not lie inside the set, cut down to the values outside
unfoldable pub cut_one : ℕ → ℕ → List ℕ → List ℕ
cut_one m p box = if_test (inside (room_at box p) m) box λ _. with_room box p (beside m (room_at box p))

-- so are the rooms of all of the positions
unfoldable pub cut_others : ℕ → List ℕ → List ℕ → List ℕ
cut_others m [] box = box
cut_others m (p ∷ ps) box = cut_others m ps (cut_one m p box)

-- a look counts first: more than k rooms inside are dead; exactly k: the others are cut, all in one look; fewer: nothing changes
unfoldable pub look_at_most : ℕ → ℕ → ℕ → List ℕ → List ℕ → Look
look_at_most place k m ps box =
    if_test (ltb k (inside_count m ps box)) (dead place) λ _.
    if_test (eqb (inside_count m ps box) k) (alive (cut_others m ps box)) λ _.
    alive box

-- settled where at most k rooms meet the set
unfoldable pub settled_at_most : List ℕ → ℕ → ℕ → List ℕ → Bool
settled_at_most box k m ps = leb (meeting_count m ps box) k

-- a named position is live where its room meets the set
unfoldable pub is_live_at_most : ℕ → List ℕ → ℕ → ℕ → Bool
is_live_at_most m ps p room = named p ps && meets room m

-- ---- a part of a rule: "one of these atoms" is a clause

-- whether a position with this room is live in a part
abbrev pub is_live_in : Part → ℕ → ℕ → Bool
is_live_in (one_of atoms) p room = is_live atoms p room
is_live_in (no_more_than k m ps) p room = is_live_at_most m ps p room

-- a look at a part
abbrev pub look_part : ℕ → Part → List ℕ → Look
look_part place (one_of atoms) box = look_clause place atoms box
look_part place (no_more_than k m ps) box = look_at_most place k m ps box

-- whether every assignment of the box meets the part already
abbrev pub settled_part : List ℕ → Part → Bool
settled_part box (one_of atoms) = settled_clause box atoms
settled_part box (no_more_than k m ps) = settled_at_most box k m ps

-- ---- looks in turn: a rule, a round, shrinking

-- a look at each of a list in turn, each room cut at once; a dead one ends it
unfoldable pub in_turn : {A : Type 0} → (A → List ℕ → Look) → List A → List ℕ → Look
in_turn look [] box = alive box
in_turn look (x ∷ xs) box = if_alive (look x box) (λ p. dead p) λ box'. in_turn look xs box'

-- a look at some parts, one after the other
abbrev pub look_parts : ℕ → List Part → List ℕ → Look
look_parts place parts box = in_turn (look_part place) parts box

-- a look at a rule: at its parts
abbrev pub look_rule : ℕ → Rule → List ℕ → Look
look_rule place rule box = look_parts place (parts_of rule) box

-- a look at a field: at its rule, and dead at its place
abbrev pub look_field : Field → List ℕ → Look
look_field f box = look_rule f.place f.rule box

-- a round goes once through all fields in file order
abbrev pub round : List Field → List ℕ → Look
round fields box = in_turn look_field fields box

-- whether two boxes have the same rooms
unfoldable pub same_rooms : List ℕ → List ℕ → Bool
same_rooms [] [] = true
same_rooms [] (s ∷ b) = false
same_rooms (r ∷ a) [] = false
same_rooms (r ∷ a) (s ∷ b) = eqb r s && same_rooms a b

-- rounds until one changes nothing or finds a dead field; each round but the last takes an open value away
unfoldable pub shrink : ℕ → List Field → List ℕ → Look
shrink zero fields box = alive box
shrink (suc k) fields box =
    if_alive (round fields box) (λ p. dead p) λ box'.
    if_test (same_rooms box' box) (alive box') λ _.
    shrink k fields box'

-- shrinking: one round more than there are open values is enough
unfoldable pub shrunk : List Field → List ℕ → Look
shrunk fields box = shrink (suc (open_values box)) fields box

-- ---- settled

-- whether all of a list pass the test
unfoldable pub all_of : {A : Type 0} → (A → Bool) → List A → Bool
all_of test [] = true
all_of test (x ∷ xs) = test x && all_of test xs

-- each of the parts is settled
abbrev pub settled_parts : List ℕ → List Part → Bool
settled_parts box parts = all_of (settled_part box) parts

-- each part of the rule is settled
abbrev pub settled_rule : List ℕ → Rule → Bool
settled_rule box rule = settled_parts box (parts_of rule)

-- the rule of every field is settled
abbrev pub settled : List Field → List ℕ → Bool
settled fields box = all_of (λ f. settled_rule box f.rule) fields

-- ---- live in what is not settled

-- whether some of a list pass the test
unfoldable pub some_of : {A : Type 0} → (A → Bool) → List A → Bool
some_of test [] = false
some_of test (x ∷ xs) = test x || some_of test xs

-- whether the position is live in the part, which is not settled
abbrev pub live_unsettled : List ℕ → ℕ → Part → Bool
live_unsettled box p part = is_live_in part p (room_at box p) && not (settled_part box part)

-- whether it is live in some of the parts that is not settled
abbrev pub live_in_parts : List ℕ → ℕ → List Part → Bool
live_in_parts box p parts = some_of (live_unsettled box p) parts

-- in some part of the rule that is not settled
abbrev pub live_in_rule : List ℕ → ℕ → Rule → Bool
live_in_rule box p rule = live_in_parts box p (parts_of rule)

-- in some part of a field's rule that is not settled
abbrev pub live_in_fields : List Field → List ℕ → ℕ → Bool
live_in_fields fields box p = some_of (λ f. live_in_rule box p f.rule) fields
