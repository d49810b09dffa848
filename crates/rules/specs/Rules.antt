-- Rules, files and fields: what a rule file is made of. Every other file of `specs/` cites these. Assumes nothing.
use Rattle.std.specs.Prelude.{ℕ, List}
use Rattle.rules.specs.declared.field.Atom.{Atom}

-- a rule: a clause of atoms; a set M that the values of some positions must make up exactly; a position and its starting set; or a count k, a set and positions, of
-- which at most k take a value in the set
pub data Rule : Type 0 where
  clause : List Atom → Rule
  equality : ℕ → List ℕ → Rule
  starting : Atom → Rule
  at_most : ℕ → ℕ → List ℕ → Rule

-- v positions, each with a value from 1 to n, and the rules in the order of the file
pub record File : Type 0 where
  pub v : ℕ
  pub n : ℕ
  pub rules : List Rule

-- a rule, and the offset of its field's tag byte in the file
pub record Field : Type 0 where
  pub place : ℕ
  pub rule : Rule
