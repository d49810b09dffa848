-- Request R-3 of document 02: the field first found dead, where the fields are gone through in file order, over and over, each room cut at once. Assumes nothing.
use Rattle.std.specs.Prelude.{ℕ, zero, suc, ◌≡◌, List, [], ◌++◌}
use Rattle.rules.specs.Rules.{Field}
use Rattle.steps.specs.Shrinking.{dead, in_turn, look_field}

-- the fields in file order, over and over: so many times
unfoldable pub over_and_over : ℕ → List Field → List Field
over_and_over zero fields = []
over_and_over (suc k) fields = fields ++ over_and_over k fields

-- gone through so from this box on, each room cut at once, the field first found dead is the one with this place
abbrev pub FirstDead : List Field → List ℕ → ℕ → Type 0
FirstDead fields box place = (k : ℕ) × (in_turn look_field (over_and_over k fields) box ≡ dead place)
