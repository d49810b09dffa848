-- Laws of the atoms of a clause, taken one after the other from the front. Assumes nothing.
use mathlib.Core.Path.{◌≡◌, refl, subst}
use mathlib.Core.List.{List, [], ◌∷◌, ◌++◌, Memᴰ}
use Prim.Native.Nat.{ℕ}
use Rattle.rules.specs.declared.field.Atom.{Atom}
use Rattle.rules.specs.Contents.{AtomsFit}
use Rattle.rules.specs.Writing.{PositionFits}

-- the next one is on a position from 1 to v, and so are those behind it
pub fit_next : {v : ℕ} {left : List Atom} {a : Atom} {more : List Atom} → AtomsFit v left → left ≡ a ∷ more → PositionFits v a.position × AtomsFit v more
fit_next {v} fit next = subst (AtomsFit v) next fit

-- an atom is listed where those before it end
pub listed_behind : (before : List Atom) (a : Atom) (more : List Atom) → Memᴰ a (before ++ a ∷ more)
listed_behind [] a more = Memᴰ.head refl
listed_behind (b ∷ before) a more = Memᴰ.tail (listed_behind before a more)
