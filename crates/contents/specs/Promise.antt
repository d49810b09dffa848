-- What the public functions of `src/` promise. Their contracts and the theorems that each allows one result cite these. Assumes nothing.
use Rattle.std.specs.Prelude.{◌≡◌, Bool, ◌&&◌, List, ℕ, Result, leb, length}
use Rattle.rules.specs.declared.fault.Fault.{Fault}
use Rattle.rules.specs.declared.field.Tag.{Tag}
use Rattle.rules.specs.Fault.{number_told}
use Rattle.rules.specs.Reading.{or_else, length_fits, rule_of, rule_fault}

-- `within`: whether a number is 1 to high
abbrev pub OneTo : ℕ → ℕ → Bool → Type 0
OneTo high x r = r ≡ (leb 1 x && leb x high)

-- two tests with `?` between them: the first of two faults, or the second where the first is 0
abbrev pub FirstOf : ℕ → ℕ → ℕ → Type 0
FirstOf first second r = r ≡ or_else first second

-- `length_fits`: whether a field of a kind may have so many bytes of content
abbrev pub LengthFits : Tag → ℕ → Bool → Type 0
LengthFits kind len r = r ≡ length_fits kind len

-- `content_fault`: the first fault of the rule that a content is, from left to right
abbrev pub ContentFault : List ℕ → Tag → ℕ → ℕ → Result (Unit {0}) Fault → Type 0
ContentFault content kind v n r = number_told r ≡ rule_fault v n (rule_of kind (length content) content)
