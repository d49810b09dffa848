-- What the functions of `src/lib.rt` promise. Their contracts and the theorems that each allows one result cite these. Assumes nothing.
use Rattle.std.specs.Prelude.{◌≡◌, List, [], ℕ}
use Rattle.texts.specs.declared.Text.{Text}
use Rattle.texts.specs.Grown.{line_of, grown}

-- `new`: no text
abbrev pub New : Text → Type 0
New r = r ≡ line_of []

-- every other function: the text with these bytes more
abbrev pub Grows : Text → List ℕ → Text → Type 0
Grows text more r = r ≡ grown text more
