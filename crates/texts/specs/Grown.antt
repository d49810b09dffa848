-- A text that grows at its end. The promises of `src/lib.rt` cite these. Assumes nothing.
use Rattle.std.specs.Prelude.{cond, List, [], ◌∷◌, ℕ, ◌+◌, ltb, length, take, set, replicate}
use Rattle.texts.specs.declared.Text.{Text}
use Rattle.lists.specs.Buffer.{over}

-- the text of these bytes, at the front of a buffer
unfoldable pub text_over : List ℕ → List ℕ → Text
text_over xs buffer = record { bytes = over xs buffer; len = length xs }

-- the text of these bytes, in front of zeros
unfoldable pub line_of : List ℕ → Text
line_of xs = text_over xs (replicate 2048 0)

-- the bytes of a text
unfoldable pub shown : Text → List ℕ
shown text = take text.len text.bytes

-- the text with one byte more; a text that is full stays as it is
unfoldable pub put : Text → ℕ → Text
put text b = cond (ltb text.len 2048) (record { bytes = set text.bytes text.len b; len = text.len + 1 }) text

-- the text with these bytes more, as many of them as have room
unfoldable pub grown : Text → List ℕ → Text
grown text [] = text
grown text (b ∷ bs) = grown (put text b) bs
