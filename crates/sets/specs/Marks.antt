-- Marks on positions: a set of positions, as a mask. The position at index p, which is p + 1, is marked if it is in the set. Assumes nothing.
use Rattle.std.specs.Prelude.{ℕ, ◌^◌, Bool}
use Rattle.sets.specs.Sets.{union, inside}

-- the test whether the position at index p is marked: the set of it alone lies inside
unfoldable pub is_marked : ℕ → ℕ → Bool
is_marked p marks = inside (2 ^ p) marks

-- the marks with one on the position at index p
unfoldable pub with_mark : ℕ → ℕ → ℕ
with_mark p marks = union marks (2 ^ p)
