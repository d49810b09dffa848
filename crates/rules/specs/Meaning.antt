-- What rules mean: when an assignment meets a rule, and which assignment comes first. Assumes nothing.
use Rattle.std.specs.Prelude.{ℕ, ◌-◌, ◌≤◌, ◌<◌, ◌≡◌, List, [], ◌∷◌, ◌↔◌, ◌⊎◌, length, get_or}
use Rattle.sets.specs.Sets.{is_member, IsMember}
use Rattle.rules.specs.declared.field.Atom.{Atom}
use Rattle.lists.specs.Lists.{Some, Every}
use Rattle.lists.specs.Passing.{passing}
use Rattle.rules.specs.Rules.{Rule, Field, File, clause, equality, starting, at_most}

-- an assignment of v positions: the values of positions 1 to v in turn, each from 1 to n
abbrev pub Assignment : ℕ → ℕ → List ℕ → Type 0
Assignment v n a = (length a ≡ v) × Every (λ x. (1 ≤ x) × (x ≤ n)) a

-- the value of a position
abbrev pub value_at : List ℕ → ℕ → ℕ
value_at a p = get_or a (p - 1) 0

-- the atom's position has a value in its set
abbrev pub MeetsAtom : List ℕ → Atom → Type 0
MeetsAtom a atom = IsMember (value_at a atom.position) atom.set

-- how many of the positions take a value in the set
abbrev pub taking : List ℕ → ℕ → List ℕ → ℕ
taking a m ps = passing (λ p. is_member (value_at a p) m) ps

-- a clause is met if some atom is; an equality if the values taken by the named positions are exactly those of M; a starting set if its position has a value in it; an
-- at-most rule if no more than k of the named positions take a value in the set
abbrev pub Meets : List ℕ → Rule → Type 0
Meets a (clause atoms) = Some (MeetsAtom a) atoms
Meets a (equality m ps) = (x : ℕ) → IsMember x m ↔ Some (λ p. value_at a p ≡ x) ps
Meets a (starting atom) = MeetsAtom a atom
Meets a (at_most k m ps) = taking a m ps ≤ k

-- the assignment meets every rule
abbrev pub MeetsAll : List ℕ → List Rule → Type 0
MeetsAll a rules = Every (Meets a) rules

-- the assignment meets the rule of every field
abbrev pub MeetsFields : List ℕ → List Field → Type 0
MeetsFields a fields = Every (λ f. Meets a f.rule) fields

-- a comes before b in dictionary order: position 1 is compared, then 2, and so on, the smaller value first
abbrev pub Before : List ℕ → List ℕ → Type 0
Before [] bs = ⊥
Before (a ∷ more) [] = ⊥
Before (a ∷ more) (b ∷ bs) = (a < b) ⊎ ((a ≡ b) × Before more bs)

-- b is not earlier than a: it is the same, or it comes behind it
abbrev pub NotEarlier : List ℕ → List ℕ → Type 0
NotEarlier b a = (a ≡ b) ⊎ Before a b

-- a plan of the file: an assignment that meets all of its rules
abbrev pub Plan : File → List ℕ → Type 0
Plan file a = Assignment file.v file.n a × MeetsAll a file.rules

-- the first plan in dictionary order: no plan is earlier
abbrev pub FirstPlan : File → List ℕ → Type 0
FirstPlan file a = Plan file a × ((b : List ℕ) → Plan file b → (a ≡ b) ⊎ Before a b)
