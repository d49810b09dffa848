-- What the public function of `src/` promises. Its contract and the theorem that it allows one result cite this. Assumes nothing.
use Rattle.std.specs.Prelude.{◌≡◌, List, ℕ, length}
use Rattle.rules.specs.declared.field.Tag.{Tag}
use Rattle.rules.specs.Reading.{rule_of}
use Rattle.rooms.specs.Held.{Held}
use Rattle.lowest.specs.LowestBy.{lowest_by}

-- `lowest_by_kind`: the lowest index below a bound that step 4 may split because of the rule of these bytes; the bound where there is none
abbrev pub LowestByKind : Held → List ℕ → Tag → ℕ → ℕ → Type 0
LowestByKind rooms content kind bound r = r ≡ lowest_by rooms.box (rule_of kind (length content) content) bound
