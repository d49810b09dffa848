-- The special kind of demand 3, with the starting sets of R-6, decided by a function on files. Assumes nothing.
use Rattle.std.specs.Prelude.{ℕ, zero, suc, ◌+◌, ◌-◌, Bool, true, false, not, ◌&&◌, ◌||◌, List, [], ◌∷◌, leb}
use Rattle.sets.specs.Sets.{full, common, is_empty, inside, smallest, beside}
use Rattle.sets.specs.Promise.{one_if}
use Rattle.rules.specs.declared.field.Atom.{Atom}
use Rattle.rules.specs.Rules.{Rule, Field, File, clause, equality, starting, at_most}
use Rattle.rules.specs.Writing.{fields_of}
use Rattle.steps.specs.Boxes.{room_at}
use Rattle.steps.specs.Shrinking.{united}
use Rattle.steps.specs.Start.{start_of}

-- Whether a set counts as empty or {1..b} by a starting set: no starting value in it stands above one that it lacks. A set that has every starting value lacks none.
unfoldable pub is_ladder : ℕ → ℕ → Bool
is_ladder start m = is_empty (beside m start) || inside (common m start) (full (smallest (beside m start) - 1))

-- how many of the positions 1 to v have a united set that is neither, each by its own starting set
unfoldable pub odd_sets : ℕ → List ℕ → List Atom → ℕ
odd_sets zero start atoms = 0
odd_sets (suc p) start atoms = one_if (not (is_ladder (room_at start (suc p)) (united (suc p) atoms))) + odd_sets p start atoms

-- whether a rule is a clause with at most one such set, or a starting set
unfoldable pub special_rule : ℕ → List ℕ → Rule → Bool
special_rule v start (clause atoms) = leb (odd_sets v start atoms) 1
special_rule v start (equality m ps) = false
special_rule v start (starting a) = true
special_rule v start (at_most k m ps) = false

-- whether every field's rule is
unfoldable pub special_rules : ℕ → List ℕ → List Field → Bool
special_rules v start [] = true
special_rules v start (f ∷ fs) = special_rule v start f.rule && special_rules v start fs

-- whether a file is of the special kind: all rules are starting sets or clauses, each clause with at most one such set
unfoldable pub special : File → Bool
special file = special_rules file.v (start_of file) (fields_of file)
