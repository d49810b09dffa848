-- Examples of a text that grows, computed. Assumes nothing.
use mathlib.Core.Path.{◌≡◌, refl}
use Rattle.texts.specs.Bytes.{bytes_of}
use Rattle.texts.specs.Grown.{text_over, line_of, put, grown}

-- a line with more bytes
pub example-grown : grown (line_of (bytes_of "PLAN")) (bytes_of " 1") ≡ line_of (bytes_of "PLAN 1")
unfolding bytes_of text_over line_of put grown
example-grown = refl

-- the bytes behind a text stay where they are
pub example-behind : grown (text_over (bytes_of "a") (bytes_of "wxyz")) (bytes_of "bc") ≡ text_over (bytes_of "abc") (bytes_of "wxyz")
unfolding bytes_of text_over put grown
example-behind = refl

-- one byte has room at 2,047 bytes, and none at 2,048
pub example-full : ((put (record { bytes = bytes_of "a"; len = 2047 }) 98).len ≡ 2048) × ((put (record { bytes = bytes_of "a"; len = 2048 }) 98).len ≡ 2048)
unfolding put
example-full = (refl, refl)
