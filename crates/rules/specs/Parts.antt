-- The parts that a rule is made of, in 01's order, and when an assignment meets one. The search looks at these. Assumes nothing.
use Rattle.std.specs.Prelude.{ℕ, ◌≤◌, List, [], ◌∷◌, ◌++◌, map}
use Rattle.sets.specs.Sets.{single, values}
use Rattle.rules.specs.declared.field.Atom.{Atom}
use Rattle.lists.specs.Lists.{Some}
use Rattle.rules.specs.Rules.{Rule, clause, equality, starting, at_most}
use Rattle.rules.specs.Meaning.{MeetsAtom, taking}

-- a part of a rule: one of these atoms; or no more than k of these positions take a value in the set
pub data Part : Type 0 where
  one_of : List Atom → Part
  no_more_than : ℕ → ℕ → List ℕ → Part

-- one of these atoms: some atom is met; no more than k: so many at most take a value in the set
abbrev pub MeetsPart : List ℕ → Part → Type 0
MeetsPart a (one_of atoms) = Some (MeetsAtom a) atoms
MeetsPart a (no_more_than k m ps) = taking a m ps ≤ k

-- the atom "position p is in the set m"
unfoldable pub atom_in : ℕ → ℕ → Atom
atom_in m p = record { position = p; set = m }

-- for each named position "it is in the set"
abbrev pub each_inside : ℕ → List ℕ → List Part
each_inside m ps = map (λ p. one_of (atom_in m p ∷ [])) ps

-- for each value x of the set, rising, "one of the named positions is in {x}"
abbrev pub each_taken : ℕ → List ℕ → List Part
each_taken m ps = map (λ x. one_of (map (atom_in (single x)) ps)) (values m)

-- an equality's clauses: its positions are in M, and then each value of M is taken
unfoldable pub equality_parts : ℕ → List ℕ → List Part
equality_parts m ps = each_inside m ps ++ each_taken m ps

-- a clause is one part; an equality's parts are those above; a starting set is the clause of its one atom, which every room that lies inside it meets already; an at-most
-- rule is one part, which is no clause
unfoldable pub parts_of : Rule → List Part
parts_of (clause atoms) = one_of atoms ∷ []
parts_of (equality m ps) = equality_parts m ps
parts_of (starting a) = one_of (a ∷ []) ∷ []
parts_of (at_most k m ps) = no_more_than k m ps ∷ []
