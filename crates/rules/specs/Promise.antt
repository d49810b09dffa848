-- What the public functions of `src/` promise. Their contracts and the theorems that each allows one result cite these. Assumes nothing.
use Rattle.std.specs.Prelude.{◌≡◌, List, ℕ, drop}
use Rattle.rules.specs.declared.field.Tag.{Tag}
use Rattle.rules.specs.declared.field.Atom.{Atom}
use Rattle.rules.specs.declared.field.Head.{Head}
use Rattle.rules.specs.Reading.{tag_of, set_at, atom_of, head_of}

-- `tag_of`: the kind of field that a tag byte announces
abbrev pub TagOf : ℕ → Tag → Type 0
TagOf tag r = r ≡ tag_of tag

-- `set_at`: the four bytes from `at` on as a set
abbrev pub SetAt : List ℕ → ℕ → ℕ → Type 0
SetAt bytes at r = r ≡ set_at bytes at

-- `atom_at`: the five bytes from `at` on as an atom
abbrev pub AtomAt : List ℕ → ℕ → Atom → Type 0
AtomAt bytes at r = r ≡ atom_of (drop at bytes)

-- `head_at`: the three bytes from `at` on as a head
abbrev pub HeadAt : List ℕ → ℕ → Head → Type 0
HeadAt bytes at r = r ≡ head_of (drop at bytes)
