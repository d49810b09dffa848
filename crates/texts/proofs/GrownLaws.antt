-- Laws of a text that grows at its end: bytes in parts, `grown_more`, and what it then shows, `grown-over` and `line_made`. Assumes nothing.
use mathlib.Core.Path.{◌≡◌, refl, sym, ap, ◌∙◌}
use mathlib.Core.List.{List, [], ◌∷◌, ◌++◌, append-nil}
use Prim.Native.Nat.{ℕ, ◌+◌, ◌≤◌, ◌<◌}
use native.Mathlib.Decide.{dec_lt}
use native.Mathlib.Omega.{arith}
use lib.ListN.{length, take, set, replicate, length-append, length-replicate}
use lib.Seq.{take-append_seam, take_all, take_at, append_snoc}
use borrow.Author.Tests.{lt-ltb, le-ltb}
use Rattle.texts.specs.declared.Text.{Text}
use Rattle.texts.specs.Grown.{text_over, line_of, shown, put, grown}
use Rattle.lists.proofs.BufferLaws.{over_store}

-- a line shows its bytes
pub shown_line : (xs : List ℕ) → shown (line_of xs) ≡ xs
unfolding shown line_of text_over
shown_line xs = take-append_seam xs _

-- ---- one byte

-- one byte more where there is room for it
pub put_room : (text : Text) (b : ℕ) → text.len < 2048 → put text b ≡ record { bytes = set text.bytes text.len b; len = text.len + 1 }
unfolding put
put_room text b lt = rw (lt-ltb text.len 2048 lt)

-- a text that is full stays as it is
pub put_full : (text : Text) (b : ℕ) → 2048 ≤ text.len → put text b ≡ text
unfolding put
put_full text b le = rw (le-ltb text.len 2048 le)

-- ---- bytes in parts

-- the bytes of two lists, one list after the other
grown-append : (text : Text) (xs ys : List ℕ) → grown text (xs ++ ys) ≡ grown (grown text xs) ys
unfolding grown
grown-append text [] ys = refl
grown-append text (x ∷ xs) ys = grown-append (put text x) xs ys

-- no byte more
pub grown_none : (text : Text) {more : List ℕ} → more ≡ [] → text ≡ grown text more
unfolding grown
grown_none text none = sym (ap (grown text) none)

-- bytes that are added in two parts
pub grown_more : (text : Text) (xs ys : List ℕ) {r s : Text} → r ≡ grown text xs → s ≡ grown r ys → s ≡ grown text (xs ++ ys)
grown_more text xs ys first second = second ∙ ap (λ (t : Text). grown t ys) first ∙ sym (grown-append text xs ys)

-- the same, where the whole is known by another name
pub grown_whole : (text : Text) (xs ys : List ℕ) {whole : List ℕ} {r s : Text} → xs ++ ys ≡ whole → r ≡ grown text xs → s ≡ grown r ys → s ≡ grown text whole
grown_whole text xs ys parts first second = grown_more text xs ys first second ∙ ap (grown text) parts

-- ---- what is shown

-- one byte more at the front of a buffer
put-over : (xs buffer : List ℕ) (b : ℕ) → length xs < 2048 → length buffer ≡ 2048 → put (text_over xs buffer) b ≡ text_over (xs ++ (b ∷ [])) buffer
unfolding text_over
put-over xs buffer b lt size =
    let longer : length xs + 1 ≡ length (xs ++ (b ∷ [])) = sym (length-append xs (b ∷ [])) in
    put_room (text_over xs buffer) b lt
    ∙ ap (λ (bytes : List ℕ). record { bytes = bytes; len = length xs + 1 }) (over_store xs buffer b (omega arith))
    ∙ ap (λ (n : ℕ). record { bytes = (text_over (xs ++ (b ∷ [])) buffer).bytes; len = n }) longer

-- at the front of a buffer a text shows the first 2,048 of all its bytes
pub grown-over : (xs ys buffer : List ℕ) → length xs ≤ 2048 → length buffer ≡ 2048 → grown (text_over xs buffer) ys ≡ text_over (take 2048 (xs ++ ys)) buffer
unfolding grown text_over
grown-over xs [] buffer le size = ap (λ (zs : List ℕ). text_over zs buffer) (sym (ap (take 2048) (append-nil xs) ∙ take_all 2048 xs le))
grown-over xs (y ∷ ys) buffer le size = by_room (dec_lt (length xs) 2048) (λ zs fits. grown-over zs ys buffer fits size)
  where
    by_room : Dec (length xs < 2048) → ((zs : List ℕ) → length zs ≤ 2048 → grown (text_over zs buffer) ys ≡ text_over (take 2048 (zs ++ ys)) buffer)
        → grown (put (text_over xs buffer) y) ys ≡ text_over (take 2048 (xs ++ (y ∷ ys))) buffer
    by_room (yes lt) rest =
        ap (λ (t : Text). grown t ys) (put-over xs buffer y lt size)
        ∙ rest (xs ++ (y ∷ [])) (omega (arith, length-append xs (y ∷ [])))
        ∙ ap (λ (zs : List ℕ). text_over (take 2048 zs) buffer) (append_snoc xs y ys)
    by_room (no full) rest =
        let whole : length xs ≡ 2048 = omega (arith, full) in
        ap (λ (t : Text). grown t ys) (put_full (text_over xs buffer) y (omega arith))
        ∙ rest xs le
        ∙ ap (λ (zs : List ℕ). text_over zs buffer) (take_at xs ys 2048 whole ∙ sym (take_at xs (y ∷ ys) 2048 whole))

-- bytes that have room, added to no text, are a line
pub line_made : (xs : List ℕ) {text r : Text} → length xs ≤ 2048 → text ≡ line_of [] → r ≡ grown text xs → r ≡ line_of xs
unfolding line_of
line_made xs fits none all =
    all ∙ ap (λ (t : Text). grown t xs) none ∙ grown-over [] xs (replicate 2048 0) (omega arith) (length-replicate {A = ℕ} 2048 0)
    ∙ ap (λ (zs : List ℕ). text_over zs (replicate 2048 0)) (take_all 2048 xs fits)
