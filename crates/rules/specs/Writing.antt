-- Writing a file back to bytes, the places of its fields, and the limits of a file that can be read. Assumes nothing.
use Rattle.std.specs.Prelude.{ℕ, ◌+◌, ◌*◌, ◌/◌, ◌%◌, ◌≤◌, ◌<◌, ◌≡◌, List, [], ◌∷◌, ◌++◌, T, length}
use Rattle.sets.specs.Sets.{IsMember, full, inside}
use Rattle.rules.specs.declared.field.Atom.{Atom}
use Rattle.lists.specs.Lists.{Every}
use Rattle.rules.specs.Rules.{Rule, Field, File, clause, equality, starting, at_most}
use Rattle.rules.specs.Reading.{named_twice, seen_with}

-- a length as two bytes, high byte first
unfoldable pub two_bytes : ℕ → List ℕ
two_bytes len = len / 256 ∷ len % 256 ∷ []

-- a set as four bytes, high byte first
unfoldable pub four_bytes : ℕ → List ℕ
four_bytes m = m / 256 / 256 / 256 ∷ m / 256 / 256 % 256 ∷ m / 256 % 256 ∷ m % 256 ∷ []

-- atoms one behind the other: a position byte, then a set
unfoldable pub written_atoms : List Atom → List ℕ
written_atoms [] = []
written_atoms (a ∷ more) = a.position ∷ four_bytes a.set ++ written_atoms more

-- a field: tag, length, content
unfoldable pub framed : ℕ → List ℕ → List ℕ
framed tag content = tag ∷ two_bytes (length content) ++ content

-- the tag byte of a rule's field
unfoldable pub tag_byte : Rule → ℕ
tag_byte (clause atoms) = 2
tag_byte (equality m ps) = 3
tag_byte (starting a) = 4
tag_byte (at_most k m ps) = 5

-- the content of a rule's field
unfoldable pub content_bytes : Rule → List ℕ
content_bytes (clause atoms) = written_atoms atoms
content_bytes (equality m ps) = four_bytes m ++ ps
content_bytes (starting a) = written_atoms (a ∷ [])
content_bytes (at_most k m ps) = k ∷ four_bytes m ++ ps

-- a rule's field
unfoldable pub written_rule : Rule → List ℕ
written_rule rule = framed (tag_byte rule) (content_bytes rule)

-- the fields of some rules, one behind the other
unfoldable pub written_rules : List Rule → List ℕ
written_rules [] = []
written_rules (r ∷ rs) = written_rule r ++ written_rules rs

-- a file: the header, then the fields of its rules
unfoldable pub written : File → List ℕ
written file = framed 1 (file.v ∷ file.n ∷ []) ++ written_rules file.rules

-- ---- places

-- the fields of some rules from a place on: each stands where the one before it ends
unfoldable pub placed : ℕ → List Rule → List Field
placed place [] = []
placed place (r ∷ rs) = record { place = place; rule = r } ∷ placed (place + length (written_rule r)) rs

-- the fields of a file, the first behind the header
unfoldable pub fields_of : File → List Field
fields_of file = placed 5 file.rules

-- ---- 01's limits

-- a position is 1 to v
abbrev pub PositionFits : ℕ → ℕ → Type 0
PositionFits v p = (1 ≤ p) × (p ≤ v)

-- a set lies within {1..n}
abbrev pub SetFits : ℕ → ℕ → Type 0
SetFits n m = T (inside m (full n))

-- an atom is on a position 1 to v, and its set lies within {1..n}
abbrev pub AtomFits : ℕ → ℕ → Atom → Type 0
AtomFits v n a = PositionFits v a.position × SetFits n a.set

-- positions are 1 to v, sets lie within {1..n}, a starting set has a value, the length fits two bytes, in an equality 4 to 68, and in an at-most rule
-- 5 to 69, the count is a byte and no position is named twice
abbrev pub RuleFits : ℕ → ℕ → Rule → Type 0
RuleFits v n (clause atoms) = (length atoms * 5 < 65536) × Every (AtomFits v n) atoms
RuleFits v n (equality m ps) = (length ps ≤ 64) × SetFits n m × Every (PositionFits v) ps
RuleFits v n (starting a) = AtomFits v n a × (a.set ≡ 0 → ⊥)
RuleFits v n (at_most k m ps) = (k < 256) × (length ps ≤ 64) × SetFits n m × Every (PositionFits v) ps × (T (named_twice ps) → ⊥)

-- the rule is no starting set of a position seen
abbrev pub Unseen : ℕ → Rule → Type 0
Unseen seen (clause atoms) = Unit {0}
Unseen seen (equality m ps) = Unit {0}
Unseen seen (starting a) = IsMember a.position seen → ⊥
Unseen seen (at_most k m ps) = Unit {0}

-- no position has two starting sets, and none of those seen has one more
abbrev pub OneStart : ℕ → List Rule → Type 0
OneStart seen [] = Unit {0}
OneStart seen (r ∷ rs) = Unseen seen r × OneStart (seen_with r seen) rs

-- a file within the limits: v 1 to 64, n 1 to 32, every rule, and at most one starting set for a position
pub record Within (file : File) : Type 0 where
  pub positions : (1 ≤ file.v) × (file.v ≤ 64)
  pub values : (1 ≤ file.n) × (file.n ≤ 32)
  pub rules : Every (RuleFits file.v file.n) file.rules
  pub starts : OneStart 0 file.rules
