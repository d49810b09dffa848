-- Reading a text back: its words, and the number that decimal digits are. The theorems on what a text tells cite these. Assumes nothing.
use Rattle.std.specs.Prelude.{Bool, true, false, ◌||◌, List, [], ◌∷◌, ℕ, ◌+◌, ◌-◌, ◌*◌, eqb}

-- the number that the digits are, where a number stands before them
unfoldable pub digits_after : ℕ → List ℕ → ℕ
digits_after n [] = n
digits_after n (d ∷ ds) = digits_after (n * 10 + (d - 48)) ds

-- the number that decimal digits are
unfoldable pub number_in : List ℕ → ℕ
number_in ds = digits_after 0 ds

-- whether a byte ends a word: a space or the end of a line
unfoldable pub ends_word : ℕ → Bool
ends_word b = eqb b 32 || eqb b 10

-- a byte in front of the first word
unfoldable pub into_first : ℕ → List (List ℕ) → List (List ℕ)
into_first b [] = (b ∷ []) ∷ []
into_first b (word ∷ words) = (b ∷ word) ∷ words

-- a byte in front of words: an end of its own where it ends a word
unfoldable pub words_next : Bool → ℕ → List (List ℕ) → List (List ℕ)
words_next true b words = [] ∷ words
words_next false b words = into_first b words

-- the words of a text, each up to the byte that ends it
unfoldable pub words_in : List ℕ → List (List ℕ)
words_in [] = []
words_in (b ∷ bytes) = words_next (ends_word b) b (words_in bytes)
