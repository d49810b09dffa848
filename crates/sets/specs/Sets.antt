-- Sets of values as numbers: what the contracts of `src/lib.rt` and every crate above mean by a set, its members and each operation. Assumes nothing.
use Rattle.std.specs.Prelude.{ℕ, zero, suc, ◌-◌, ◌/◌, ◌%◌, ◌^◌, ◌<◌, Bool, true, false, not, ◌&&◌, List, [], ◌∷◌, T, eqb, leb, length}
use Rattle.std.specs.Int.Bits.{bit_and, bit_or, bit_xor}

-- ---- what is in a set

-- the binary digit of m at place k, the lowest digit being at place 0
unfoldable pub digit : ℕ → ℕ → ℕ
digit zero m = m % 2
digit (suc k) m = digit k (m / 2)

-- the test whether x is in the set m: the digit at place x - 1 is 1, and no set holds 0
unfoldable pub is_member : ℕ → ℕ → Bool
is_member zero m = false
is_member (suc k) m = eqb (digit k m) 1

-- x is in the set m
abbrev pub IsMember : ℕ → ℕ → Type 0
IsMember x m = T (is_member x m)

-- ---- sets made of sets

-- n is a number of values that a set can be asked for: 1 to 32
unfoldable pub in_range : ℕ → Bool
in_range n = leb 1 n && leb n 32

-- m where the test holds, and the empty set where it does not
unfoldable pub only_if : Bool → ℕ → ℕ
only_if true m = m
only_if false m = 0

-- {1..n}; the empty set where n is not 1 to 32
unfoldable pub full : ℕ → ℕ
full n = only_if (in_range n) (2 ^ n - 1)

-- {x}; the empty set where x is not 1 to 32
unfoldable pub single : ℕ → ℕ
single x = only_if (in_range x) (2 ^ (x - 1))

-- the values in a or in b
unfoldable pub union : ℕ → ℕ → ℕ
union a b = bit_or a b

-- the values in a and in b
unfoldable pub common : ℕ → ℕ → ℕ
common a b = bit_and a b

-- the values of {1..n} that are not in m; the empty set where n is not 1 to 32
unfoldable pub complement : ℕ → ℕ → ℕ
complement n m = bit_xor (full n) (common (full n) m)

-- ---- what is asked of a set

-- whether m has no value
unfoldable pub is_empty : ℕ → Bool
is_empty m = eqb m 0

-- whether every value of a is in b: the common part is the whole of a
unfoldable pub inside : ℕ → ℕ → Bool
inside a b = eqb (common a b) a

-- whether a and b have a value in common
abbrev pub meets : ℕ → ℕ → Bool
meets a b = not (is_empty (common a b))

-- the value x in front of the others where its digit is not 0
unfoldable pub listed_if : ℕ → ℕ → List ℕ → List ℕ
listed_if zero x xs = xs
listed_if (suc d) x xs = x ∷ xs

-- the values of the set whose k lowest digits are those of m, the lowest standing for the value x, rising
unfoldable pub values_from : ℕ → ℕ → ℕ → List ℕ
values_from zero x m = []
values_from (suc k) x zero = []
values_from (suc k) x (suc m) = listed_if (suc m % 2) x (values_from k (suc x) (suc m / 2))

-- the values of m, rising
unfoldable pub values : ℕ → List ℕ
values m = values_from 32 1 m

-- each of xs is above the one before it, and the first above low
unfoldable pub IsRising : ℕ → List ℕ → Type 0
IsRising low [] = Unit {0}
IsRising low (x ∷ xs) = (low < x) × IsRising x xs

-- the number of values of m
unfoldable pub count : ℕ → ℕ
count m = length (values m)

-- the first of a list, and 0 where there is none
unfoldable pub first_of : List ℕ → ℕ
first_of [] = 0
first_of (x ∷ xs) = x

-- the smallest value of m, and 0 where m is empty
unfoldable pub smallest : ℕ → ℕ
smallest m = first_of (values m)

-- the values of b that are not in a
unfoldable pub beside : ℕ → ℕ → ℕ
beside a b = common b (complement 32 a)

-- the values of m but for the smallest
unfoldable pub others : ℕ → ℕ
others m = beside (single (smallest m)) m
