-- Reading: from the bytes of a file to its rules, or to a refusal with its number and place. The contracts of `src/` cite these. Assumes nothing.
use Rattle.std.specs.Prelude.{ℕ, zero, suc, ◌+◌, ◌-◌, ◌*◌, ◌/◌, ◌%◌, ◌^◌, Bool, true, false, not, ◌&&◌, ◌||◌, List, [], ◌∷◌, leb, ltb, eqb, length, get_or, take, drop}
use Rattle.sets.specs.Sets.{is_member, union, full, inside, is_empty}
use Rattle.rules.specs.declared.field.Tag.{Tag}
use Rattle.rules.specs.declared.field.Tag.TheVariants.{Header, Clause, Equality, Starting, AtMost, Unknown}
use Rattle.rules.specs.declared.field.Atom.{Atom}
use Rattle.rules.specs.declared.field.Head.{Head}
use Rattle.rules.specs.Rules.{Rule, File, clause, equality, starting, at_most}

-- ---- what the bytes of a field say

-- the first kind where the test holds, else the second
abbrev pub pick_tag : Bool → Tag → Tag → Tag
pick_tag true a b = a
pick_tag false a b = b

-- the kind of field that a tag byte announces
unfoldable pub tag_of : ℕ → Tag
tag_of tag = pick_tag (eqb tag 1) Header (pick_tag (eqb tag 2) Clause (pick_tag (eqb tag 3) Equality (pick_tag (eqb tag 4) Starting (pick_tag (eqb tag 5) AtMost Unknown))))

-- two bytes from `at` on as a number, high byte first
unfoldable pub length_at : List ℕ → ℕ → ℕ
length_at bytes at = get_or bytes at 0 * 256 + get_or bytes (at + 1) 0

-- four bytes from `at` on as a set, high byte first
unfoldable pub set_at : List ℕ → ℕ → ℕ
set_at bytes at = ((get_or bytes at 0 * 256 + get_or bytes (at + 1) 0) * 256 + get_or bytes (at + 2) 0) * 256 + get_or bytes (at + 3) 0

-- the atom that five bytes are: a position byte, then a set
unfoldable pub atom_of : List ℕ → Atom
atom_of bytes = record { position = get_or bytes 0 0; set = set_at bytes 1 }

-- the head that three bytes are: a tag byte, then a length; the kind of its field is `tag_of head.tag`
unfoldable pub head_of : List ℕ → Head
head_of bytes = record { tag = get_or bytes 0 0; length = length_at bytes 1 }

-- the bytes behind a field's head
unfoldable pub content_of : List ℕ → List ℕ
content_of bytes = drop 3 bytes

-- the first so many atoms that the bytes are
unfoldable pub atoms_of : ℕ → List ℕ → List Atom
atoms_of zero bytes = []
atoms_of (suc k) bytes = atom_of bytes ∷ atoms_of k (drop 5 bytes)

-- the rule that a content of so many bytes is, by the field's kind; a header and an unknown field have none
unfoldable pub rule_of : Tag → ℕ → List ℕ → Rule
rule_of Header len bytes = clause []
rule_of Clause len bytes = clause (atoms_of (len / 5) bytes)
rule_of Equality len bytes = equality (set_at bytes 0) (take (len - 4) (drop 4 bytes))
rule_of Starting len bytes = starting (atom_of bytes)
rule_of AtMost len bytes = at_most (get_or bytes 0 0) (set_at bytes 1) (take (len - 5) (drop 5 bytes))
rule_of Unknown len bytes = clause []

-- whether a field of a kind may have so many bytes of content
unfoldable pub length_fits : Tag → ℕ → Bool
length_fits Header len = eqb len 2
length_fits Clause len = eqb (len % 5) 0
length_fits Equality len = leb 4 len && leb len 68
length_fits Starting len = eqb len 5
length_fits AtMost len = leb 5 len && leb len 69
length_fits Unknown len = false

-- ---- faults: 01's number of the first that is found, and 0 where there is none

-- a fault where the test holds, else what comes after
abbrev pub fault_if : Bool → ℕ → (Unit {0} → ℕ) → ℕ
fault_if true number rest = number
fault_if false number rest = rest tt

-- a fault that was found, else what comes after
abbrev pub or_else : ℕ → ℕ → ℕ
or_else zero later = later
or_else (suc number) later = suc number

-- 19: a position 0 or above v
unfoldable pub position_fault : ℕ → ℕ → ℕ
position_fault v p = fault_if (not (leb 1 p && leb p v)) 19 λ _. 0

-- 20: a set with a value above n
unfoldable pub set_fault : ℕ → ℕ → ℕ
set_fault n m = fault_if (not (inside m (full n))) 20 λ _. 0

-- in an atom 19 before 20
unfoldable pub atom_fault : ℕ → ℕ → Atom → ℕ
atom_fault v n a = or_else (position_fault v a.position) (set_fault n a.set)

-- the first fault of some atoms
unfoldable pub atoms_fault : ℕ → ℕ → List Atom → ℕ
atoms_fault v n [] = 0
atoms_fault v n (a ∷ more) = or_else (atom_fault v n a) (atoms_fault v n more)

-- the first fault of some positions
unfoldable pub positions_fault : ℕ → List ℕ → ℕ
positions_fault v [] = 0
positions_fault v (p ∷ ps) = or_else (position_fault v p) (positions_fault v ps)

-- 26: a starting set without a value
unfoldable pub empty_fault : ℕ → ℕ
empty_fault m = fault_if (is_empty m) 26 λ _. 0

-- whether a position is one of some
unfoldable pub named : ℕ → List ℕ → Bool
named p [] = false
named p (q ∷ qs) = eqb q p || named p qs

-- whether one of the positions is named twice
unfoldable pub named_twice : List ℕ → Bool
named_twice [] = false
named_twice (p ∷ ps) = named p ps || named_twice ps

-- 36: a position named twice
unfoldable pub twice_fault : List ℕ → ℕ
twice_fault ps = fault_if (named_twice ps) 36 λ _. 0

-- the contents from left to right; in an equality 20 before 19, of a starting set 26 last, and of an at-most field 20, then 19 of every position, then 36
unfoldable pub rule_fault : ℕ → ℕ → Rule → ℕ
rule_fault v n (clause atoms) = atoms_fault v n atoms
rule_fault v n (equality m ps) = or_else (set_fault n m) (positions_fault v ps)
rule_fault v n (starting a) = or_else (atom_fault v n a) (empty_fault a.set)
rule_fault v n (at_most k m ps) = or_else (set_fault n m) (or_else (positions_fault v ps) (twice_fault ps))

-- the rule that a field's bytes hold
unfoldable pub rule_at : List ℕ → Rule
rule_at bytes = rule_of (tag_of (head_of bytes).tag) (head_of bytes).length (content_of bytes)

-- the kind of a field behind the header: 15 for a later header, 16 for a tag that is not known
unfoldable pub tag_fault : Tag → ℕ
tag_fault Header = 15
tag_fault Clause = 0
tag_fault Equality = 0
tag_fault Starting = 0
tag_fault AtMost = 0
tag_fault Unknown = 16

-- what stands behind the tag: the length (17), bytes missing (13), the content
unfoldable pub body_fault : ℕ → ℕ → Tag → ℕ → List ℕ → ℕ
body_fault v n kind len content =
    fault_if (not (length_fits kind len)) 17 λ _.
    fault_if (ltb (length content) len) 13 λ _.
    rule_fault v n (rule_of kind len content)

-- a field behind the header, in 01's order of tests: a head that is cut, the tag, what stands behind it
unfoldable pub field_fault : ℕ → ℕ → List ℕ → ℕ
field_fault v n bytes =
    fault_if (ltb (length bytes) 3) 13 λ _.
    or_else (tag_fault (tag_of (head_of bytes).tag)) (body_fault v n (tag_of (head_of bytes).tag) (head_of bytes).length (content_of bytes))

-- v and n as a header may have them
unfoldable pub limits_fit : ℕ → ℕ → Bool
limits_fit v n = (leb 1 v && leb v 64) && (leb 1 n && leb n 32)

-- what stands behind the header's tag: the length (17), bytes missing (13), v and n (18)
unfoldable pub header_body_fault : ℕ → List ℕ → ℕ
header_body_fault len bytes =
    fault_if (not (length_fits Header len)) 17 λ _.
    fault_if (ltb (length (content_of bytes)) 2) 13 λ _.
    fault_if (not (limits_fit (get_or bytes 3 0) (get_or bytes 4 0))) 18 λ _.
    0

-- the header, in 01's order of tests: an empty input, a head that is cut, the tag, what stands behind it
unfoldable pub header_fault : List ℕ → ℕ
header_fault bytes =
    fault_if (eqb (length bytes) 0) 14 λ _.
    fault_if (ltb (length bytes) 3) 13 λ _.
    fault_if (not (eqb (head_of bytes).tag 1)) 14 λ _.
    header_body_fault (head_of bytes).length bytes

-- ---- positions that have a starting set: the fields in front of one say which, as a set of positions

-- the set with one position more
unfoldable pub with_position : ℕ → ℕ → ℕ
with_position p seen = union seen (2 ^ (p - 1))

-- the positions seen once a rule has been read
unfoldable pub seen_with : Rule → ℕ → ℕ
seen_with (clause atoms) seen = seen
seen_with (equality m ps) seen = seen
seen_with (starting a) seen = with_position a.position seen
seen_with (at_most k m ps) seen = seen

-- 27: a second starting set for a position, whatever it is
unfoldable pub again_fault : ℕ → Rule → ℕ
again_fault seen (clause atoms) = 0
again_fault seen (equality m ps) = 0
again_fault seen (starting a) = fault_if (is_member a.position seen) 27 λ _. 0
again_fault seen (at_most k m ps) = 0

-- the first fault of a field where these positions have a starting set: 27 after every other
unfoldable pub fault_after : ℕ → ℕ → ℕ → List ℕ → ℕ
fault_after v n seen bytes = or_else (field_fault v n bytes) (again_fault seen (rule_at bytes))

-- ---- the whole file

-- what reading finds: a file, or a refusal with its number and place
pub data Reading : Type 0 where
  sound : File → Reading
  refused : ℕ → ℕ → Reading

-- a refusal for a fault at a place, else what comes after
abbrev pub refuse_for : ℕ → ℕ → (Unit {0} → Reading) → Reading
refuse_for zero place rest = rest tt
refuse_for (suc number) place rest = refused (suc number) place

-- what was found, with one rule more in front
abbrev pub with_rule : Rule → Reading → Reading
with_rule r (sound file) = sound (record { v = file.v; n = file.n; rules = r ∷ file.rules })
with_rule r (refused number place) = refused number place

-- the number of bytes of the field that starts the bytes
unfoldable pub size_of : List ℕ → ℕ
size_of bytes = 3 + (head_of bytes).length

-- The rules of the fields that the bytes from a place on are, where the positions seen have a starting set in front of it. Each field takes 3 bytes or more, so
-- as many steps as there are bytes are enough.
unfoldable pub read_fields : ℕ → ℕ → ℕ → ℕ → ℕ → List ℕ → Reading
read_fields zero v n seen place bytes = sound (record { v = v; n = n; rules = [] })
read_fields (suc k) v n seen place [] = sound (record { v = v; n = n; rules = [] })
read_fields (suc k) v n seen place (b ∷ bs) =
    refuse_for (fault_after v n seen (b ∷ bs)) place λ _.
    with_rule (rule_at (b ∷ bs)) (read_fields k v n (seen_with (rule_at (b ∷ bs)) seen) (place + size_of (b ∷ bs)) (drop (size_of (b ∷ bs)) (b ∷ bs)))

-- the file that the bytes are
unfoldable pub reading : List ℕ → Reading
reading bytes =
    refuse_for (header_fault bytes) 0 λ _.
    read_fields (length bytes) (get_or bytes 3 0) (get_or bytes 4 0) 0 5 (drop 5 bytes)
