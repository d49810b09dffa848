-- Laws of what bytes say where they start further on, and of the tag byte. Assumes nothing.
use mathlib.Core.Path.{◌≡◌, sym, ap, ap₂, ◌∙◌}
use mathlib.Core.List.{List, [], ◌∷◌}
use Prim.Native.Nat.{ℕ, ◌+◌, ◌*◌, suc, ◌<◌}
use native.Mathlib.Nat.{add-zero, add_assoc}
use lib.ListN.{get_or, drop}
use lib.Seq.{get_or-drop}
use borrow.Author.Tests.{ne_eqb}
use Rattle.rules.specs.declared.field.Tag.TheVariants.{Unknown}
use Rattle.lists.specs.Lists.{Every}
use Rattle.rules.specs.Reading.{tag_of, length_at, set_at, atom_of, head_of}

-- the byte at an offset of the bytes from a place on
byte-drop : (bytes : List ℕ) (k at i : ℕ) → get_or (drop k bytes) (at + i) 0 ≡ get_or bytes (k + at + i) 0
byte-drop bytes k at i = get_or-drop k bytes (at + i) 0 ∙ ap (λ (j : ℕ). get_or bytes j 0) (sym (add_assoc k at i))

-- two bytes from a place on, as a number
pub length_at-drop : (bytes : List ℕ) (k at : ℕ) → length_at (drop k bytes) at ≡ length_at bytes (k + at)
unfolding length_at
length_at-drop bytes k at = ap₂ (λ (x y : ℕ). x * 256 + y) (get_or-drop k bytes at 0) (byte-drop bytes k at 1)

-- four bytes from a place on, as a set
pub set_at-drop : (bytes : List ℕ) (k at : ℕ) → set_at (drop k bytes) at ≡ set_at bytes (k + at)
unfolding set_at
set_at-drop bytes k at =
    ap₂ (λ (x y : ℕ). x * 256 + y)
    (ap₂ (λ (x y : ℕ). x * 256 + y) (ap₂ (λ (x y : ℕ). x * 256 + y) (get_or-drop k bytes at 0) (byte-drop bytes k at 1)) (byte-drop bytes k at 2))
    (byte-drop bytes k at 3)

-- the first byte from a place on
pub first-drop : (bytes : List ℕ) (k : ℕ) → get_or (drop k bytes) 0 0 ≡ get_or bytes k 0
first-drop bytes k = get_or-drop k bytes 0 0 ∙ ap (λ (j : ℕ). get_or bytes j 0) (add-zero k)

-- the atom from a place on
pub atom-drop : (bytes : List ℕ) (k : ℕ) → atom_of (drop k bytes) ≡ record { position = get_or bytes k 0; set = set_at bytes (k + 1) }
unfolding atom_of
atom-drop bytes k = λ i. record { position = first-drop bytes k i; set = set_at-drop bytes k 1 i }

-- the head from a place on
pub head-drop : (bytes : List ℕ) (k : ℕ) → head_of (drop k bytes) ≡ record { tag = get_or bytes k 0; length = length_at bytes (k + 1) }
unfolding head_of
head-drop bytes k = λ i. record { tag = first-drop bytes k i; length = length_at-drop bytes k 1 i }

-- a tag that is none of the known ones
pub tag_unknown : (tag : ℕ) → (tag ≡ 1 → ⊥) → (tag ≡ 2 → ⊥) → (tag ≡ 3 → ⊥) → (tag ≡ 4 → ⊥) → (tag ≡ 5 → ⊥) → tag_of tag ≡ Unknown
unfolding tag_of
tag_unknown tag not1 not2 not3 not4 not5 = simp (ne_eqb tag 1 not1, ne_eqb tag 2 not2, ne_eqb tag 3 not3, ne_eqb tag 4 not4, ne_eqb tag 5 not5)

-- a slice of bytes has bytes alone
pub bytes_each : (s : List ℕ) → ((i : ℕ) → get_or s i 0 < 256) → Every (λ b. b < 256) s
bytes_each [] f = tt
bytes_each (b ∷ s) f = (f 0, bytes_each s (λ i. f (suc i)))
