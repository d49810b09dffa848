-- What each function of `src/` promises. `result` says which number comes back, for every input; the other fields say what it means, by
-- `IsMember` alone. Assumes nothing.
use Rattle.std.specs.Prelude.{ℕ, zero, suc, ◌+◌, ◌≤◌, ◌<◌, ◌≡◌, ◌↔◌, ◌⊎◌, Bool, true, false, T}
use Rattle.sets.specs.Sets.{is_member, IsMember, full, single, union, common, inside, is_empty, meets, complement, count, smallest, others}
use Rattle.sets.specs.Marks.{is_marked, with_mark}

-- r is the set {1..n}, or empty where n is above 32
pub record Full (n r : ℕ) : Type 0 where
  pub result : r ≡ full n
  pub members : (x : ℕ) → IsMember x r ↔ ((n ≤ 32) × (1 ≤ x) × (x ≤ n))

-- r is the set {x}, or empty where x is not 1 to 32
pub record Single (x r : ℕ) : Type 0 where
  pub result : r ≡ single x
  pub members : (y : ℕ) → IsMember y r ↔ ((1 ≤ x) × (x ≤ 32) × (y ≡ x))

-- r has the values of either set
pub record Union (a b r : ℕ) : Type 0 where
  pub result : r ≡ union a b
  pub members : (x : ℕ) → IsMember x r ↔ (IsMember x a ⊎ IsMember x b)

-- r has the values of both sets
pub record Common (a b r : ℕ) : Type 0 where
  pub result : r ≡ common a b
  pub members : (x : ℕ) → IsMember x r ↔ (IsMember x a × IsMember x b)

-- r says whether every value of a is in b
pub record Inside (a b : ℕ) (r : Bool) : Type 0 where
  pub result : r ≡ inside a b
  pub members : T r ↔ ((x : ℕ) → IsMember x a → IsMember x b)

-- r says whether m has no value
pub record Empty (m : ℕ) (r : Bool) : Type 0 where
  pub result : r ≡ is_empty m
  pub members : T r ↔ ((x : ℕ) → IsMember x m → ⊥)

-- r says whether some value is in both sets
pub record Meets (a b : ℕ) (r : Bool) : Type 0 where
  pub result : r ≡ meets a b
  pub members : T r ↔ ((x : ℕ) × IsMember x a × IsMember x b)

-- r has the values of {1..n} that are not in m, and none where n is above 32
pub record Complement (n m r : ℕ) : Type 0 where
  pub result : r ≡ complement n m
  pub members : (x : ℕ) → IsMember x r ↔ ((n ≤ 32) × (1 ≤ x) × (x ≤ n) × (IsMember x m → ⊥))

-- one for a test that holds
unfoldable pub one_if : Bool → ℕ
one_if true = 1
one_if false = 0

-- how many of the values 1 to k are in m
unfoldable pub how_many : ℕ → ℕ → ℕ
how_many zero m = 0
how_many (suc k) m = one_if (is_member (suc k) m) + how_many k m

-- r is the number of values of m
pub record Count (m r : ℕ) : Type 0 where
  pub result : r ≡ count m
  pub members : r ≡ how_many 32 m

-- r is a value of m where m has one, and none is smaller; r is 0 where m has none
pub record Smallest (m r : ℕ) : Type 0 where
  pub result : r ≡ smallest m
  pub least : (x : ℕ) → IsMember x m → IsMember r m × (r ≤ x)
  pub none : ((x : ℕ) → IsMember x m → ⊥) → r ≡ 0

-- r has the values of m that are not its smallest
pub record Others (m r : ℕ) : Type 0 where
  pub result : r ≡ others m
  pub members : (x : ℕ) → IsMember x r ↔ (IsMember x m × ((y : ℕ) × IsMember y m × (y < x)))

-- ---- marks on positions

-- r says whether the position at index p is in the set of the marks
pub record Marked (marks p : ℕ) (r : Bool) : Type 0 where
  pub result : r ≡ is_marked p marks
  pub members : T r ↔ IsMember (suc p) marks

-- r has the positions of the marks, and the one at index p
pub record Marks (marks p r : ℕ) : Type 0 where
  pub result : r ≡ with_mark p marks
  pub members : (x : ℕ) → IsMember x r ↔ (IsMember x marks ⊎ (x ≡ suc p))
