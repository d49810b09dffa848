-- The rules of a file up to and including the field at a place, with all of its starting sets. Assumes nothing.
use Rattle.std.specs.Prelude.{ℕ, cond, List, [], ◌∷◌, ◌++◌, map, ltb}
use Rattle.rules.specs.Rules.{Rule, Field, File, clause, equality, starting, at_most}
use Rattle.rules.specs.Writing.{fields_of}

-- of fields in file order, those up to the last that stands at the place or before it
unfoldable pub fields_up_to : ℕ → List Field → List Field
fields_up_to place [] = []
fields_up_to place (f ∷ fields) = cond (ltb place f.place) [] (f ∷ fields_up_to place fields)

-- and those behind it
unfoldable pub fields_behind : ℕ → List Field → List Field
fields_behind place [] = []
fields_behind place (f ∷ fields) = cond (ltb place f.place) (f ∷ fields) (fields_behind place fields)

-- the rules of fields
abbrev pub rules_of : List Field → List Rule
rules_of fields = map (λ f. f.rule) fields

-- the starting sets among some rules
unfoldable pub only_starts : List Rule → List Rule
only_starts [] = []
only_starts (clause atoms ∷ rules) = only_starts rules
only_starts (equality m ps ∷ rules) = only_starts rules
only_starts (starting a ∷ rules) = starting a ∷ only_starts rules
only_starts (at_most k m ps ∷ rules) = only_starts rules

-- the file with the rules of the fields up to the place, and the starting sets behind it: these count from the start, wherever they stand
unfoldable pub up_to : ℕ → File → File
up_to place file = record { v = file.v; n = file.n; rules = rules_of (fields_up_to place (fields_of file)) ++ only_starts (rules_of (fields_behind place (fields_of file))) }
