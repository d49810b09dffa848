-- Words, numbers and values as the bytes of a text. The contracts of `src/` cite these. Assumes nothing.
use Rattle.std.specs.Prelude.{cond, List, [], ◌∷◌, ◌++◌, ℕ, zero, suc, ◌+◌, ◌/◌, ◌%◌, ltb}
use Prim.Native.Char.{code}
use Prim.Native.String as string
use Prim.Native.String.{String}

-- the bytes of a word in ASCII
unfoldable pub bytes_of : String → List ℕ
bytes_of string.[] = []
bytes_of (string.◌∷◌ c cs) = code c ∷ bytes_of cs

-- n in decimal digits, as bytes, most significant first and with no leading zeros; right where k digits are enough
unfoldable pub digits : ℕ → ℕ → List ℕ
digits zero n = []
digits (suc k) n = cond (ltb n 10) ((48 + n) ∷ []) (digits k (n / 10) ++ ((48 + n % 10) ∷ []))

-- a number in decimal; right below 10 ^ 20
unfoldable pub decimal : ℕ → List ℕ
decimal n = digits 20 n

-- numbers in decimal, a space before each
unfoldable pub behind : List ℕ → List ℕ
behind [] = []
behind (x ∷ xs) = 32 ∷ (decimal x ++ behind xs)

-- numbers in decimal, with single spaces between
unfoldable pub spaced : List ℕ → List ℕ
spaced [] = []
spaced (x ∷ xs) = decimal x ++ behind xs

-- the end of a line
unfoldable pub newline : List ℕ
newline = 10 ∷ []
