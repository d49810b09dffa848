-- Laws of the frame of a field: its bytes are a tag, a length and a content. Assumes nothing.
use mathlib.Core.Path.{◌≡◌, refl, sym, subst}
use mathlib.Core.Bool.{Bool, true, false}
use mathlib.Core.List.{List, [], ◌∷◌, ◌++◌}
use Prim.Native.Nat.{ℕ, zero, suc, ◌+◌, ◌*◌, ◌/◌, ◌%◌, ◌≤◌, ◌<◌}
use native.Mathlib.Omega.{arith}
use lib.Dec.{T, eqb, eqb→eq, lit<}
use lib.ListN.{length, get_or, take, drop, take-append-drop}
use lib.Seq.{drop-drop, length-take-le}
use Rattle.rules.specs.declared.field.Tag.{Tag}
use Rattle.rules.specs.declared.field.Tag.TheVariants.{Header, Clause, Equality, Starting, AtMost, Unknown}
use Rattle.lists.specs.Lists.{Every}
use Rattle.rules.specs.Reading.{pick_tag, tag_of, length_at, set_at, head_of, content_of, size_of}
use Rattle.rules.specs.Writing.{two_bytes, four_bytes, framed}

-- the number is a byte
abbrev pub Byte : ℕ → Type 0
Byte b = b < 256

-- ---- lists of bytes

-- P holds of every list with k elements or more: of each choice of its first k, and the rest
abbrev pub Front : ℕ → (List ℕ → Type 0) → Type 0
Front zero P = (rest : List ℕ) → P rest
Front (suc k) P = (b : ℕ) → Front k (λ rest. P (b ∷ rest))

-- a list with k elements or more has k in front
pub by_front : (k : ℕ) (P : List ℕ → Type 0) → Front k P → (bytes : List ℕ) → k ≤ length bytes → P bytes
by_front zero P f bytes h = f bytes
by_front (suc k) P f [] h = absurd (omega arith)
by_front (suc k) P f (b ∷ bytes) h = by_front k (λ rest. P (b ∷ rest)) (f b) bytes (omega arith)

-- bytes stay bytes where some are dropped
pub bytes_drop : (k : ℕ) (bytes : List ℕ) → Every Byte bytes → Every Byte (drop k bytes)
bytes_drop zero bytes small = small
bytes_drop (suc k) [] small = small
bytes_drop (suc k) (b ∷ bytes) small = bytes_drop k bytes small.1

pub byte_at : (i : ℕ) (bytes : List ℕ) → Every Byte bytes → get_or bytes i 0 < 256
byte_at i [] small = lit< tt
byte_at zero (b ∷ bytes) small = small.0
byte_at (suc i) (b ∷ bytes) small = byte_at i bytes small.1

-- ---- numbers as bytes

length_of-read : (high low : ℕ) → low < 256 → two_bytes (high * 256 + low) ≡ high ∷ low ∷ []
unfolding two_bytes
length_of-read high low h =
    let e : (high * 256 + low) / 256 ≡ high = omega arith in
    let f : (high * 256 + low) % 256 ≡ low = omega arith in
    cc

-- the length of a field fits two bytes
pub length_below : (bytes : List ℕ) → Every Byte bytes → (head_of bytes).length < 65536
unfolding head_of length_at
length_below bytes small = omega (arith, byte_at 1 bytes small, byte_at 2 bytes small)

-- a set that was written is read back
pub set_of-written : (m : ℕ) (rest : List ℕ) → set_at (four_bytes m ++ rest) 0 ≡ m
unfolding set_at four_bytes
set_of-written m rest = omega arith

-- a set that was read is written back
pub set_of-read : (bytes : List ℕ) → 4 ≤ length bytes → Every Byte bytes → four_bytes (set_at bytes 0) ≡ take 4 bytes
unfolding set_at four_bytes
set_of-read = by_front 4 _ λ a b c d rest small.
    let m : ℕ = ((a * 256 + b) * 256 + c) * 256 + d in
    let ea : m / 256 / 256 / 256 ≡ a = omega arith in
    let eb : m / 256 / 256 % 256 ≡ b = omega arith in
    let ec : m / 256 % 256 ≡ c = omega arith in
    let ed : m % 256 ≡ d = omega arith in
    cc

-- ---- tags

-- what holds of each known tag with its kind, and of every tag as an unknown one, holds of a tag and the kind that it announces
pub tag_cases : (P : ℕ → Tag → Type 0) → P 1 Header → P 2 Clause → P 3 Equality → P 4 Starting → P 5 AtMost → ((tag : ℕ) → P tag Unknown) → (tag : ℕ) → P tag (tag_of tag)
unfolding tag_of
tag_cases P one two three four five unknown tag = known 1 Header _ one (known 2 Clause _ two (known 3 Equality _ three (known 4 Starting _ four (known 5 AtMost _ five (unknown tag)))))
  where
    pick : (b : Bool) (kind other : Tag) → (T b → P tag kind) → P tag other → P tag (pick_tag b kind other)
    pick true kind other holds fails = holds tt
    pick false kind other holds fails = fails

    known : (byte : ℕ) (kind other : Tag) → P byte kind → P tag other → P tag (pick_tag (eqb tag byte) kind other)
    known byte kind other of-byte = pick (eqb tag byte) kind other (λ t. subst (λ (z : ℕ). P z kind) (sym (eqb→eq tag byte t)) of-byte)

-- ---- the frame

module _ (tag : ℕ) (content : List ℕ) where
  -- a framed content is three bytes longer
  pub framed-length : length (framed tag content) ≡ 3 + length content
  unfolding framed two_bytes
  framed-length = omega arith

  module _ (rest : List ℕ) where
    -- its head is its tag and its length
    pub head_of-framed : head_of (framed tag content ++ rest) ≡ record { tag = tag; length = length content }
    unfolding head_of framed two_bytes length_at
    head_of-framed = let l : length content / 256 * 256 + length content % 256 ≡ length content = omega arith in cc

    -- behind the head stand the content and the rest
    pub content_of-framed : content_of (framed tag content ++ rest) ≡ content ++ rest
    unfolding content_of framed two_bytes
    content_of-framed = refl

-- bytes with a head and a whole content are that content framed, and the rest
pub framed_of-read : (bytes : List ℕ) → 3 ≤ length bytes → Every Byte bytes → (head_of bytes).length ≤ length (content_of bytes)
    → bytes ≡ framed (head_of bytes).tag (take (head_of bytes).length (content_of bytes)) ++ drop (size_of bytes) bytes
unfolding head_of framed content_of size_of length_at
framed_of-read = by_front 3 _ λ tag high low content small there.
    let size : ℕ = high * 256 + low in
    let low_small : low < 256 = small.1.1.0 in
    rw (length-take-le, length_of-read, ← drop-drop size 3 (tag ∷ high ∷ low ∷ content), take-append-drop size content)
