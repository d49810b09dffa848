-- What holds of every rule of a file holds of every field, and the other way round: `every-placed`; of meeting them, `meets-placed`. Assumes nothing.
use mathlib.Core.List.{List, [], ◌∷◌}
use mathlib.Core.Logic.{◌↔◌}
use Prim.Native.Nat.{ℕ, ◌+◌}
use lib.ListN.{length}
use Rattle.lists.specs.Lists.{Every}
use Rattle.rules.specs.Rules.{Rule, File}
use Rattle.rules.specs.Writing.{written_rule, placed, fields_of}
use Rattle.rules.specs.Meaning.{Meets, MeetsAll, MeetsFields}

-- of rules, and of their fields from a place on
pub every-placed : (P : Rule → Type 0) (place : ℕ) (rules : List Rule) → Every P rules ↔ Every (λ f. P f.rule) (placed place rules)
unfolding placed
every-placed P place [] = (λ h. h, λ h. h)
every-placed P place (r ∷ rs) =
    let rest = every-placed P (place + length (written_rule r)) rs in
    (λ h. (h.0, rest.0 h.1), λ h. (h.0, rest.1 h.1))

-- of the rules and the fields of a file
pub every_field : (P : Rule → Type 0) (file : File) → Every P file.rules ↔ Every (λ f. P f.rule) (fields_of file)
unfolding fields_of
every_field P file = every-placed P 5 file.rules

-- an assignment meets all rules of a file exactly if it meets the rule of each field
pub meets-placed : (a : List ℕ) (file : File) → MeetsAll a file.rules ↔ MeetsFields a (fields_of file)
meets-placed a file = every_field (Meets a) file
