-- The atoms of a content and the fields of a file as they are gone through in `src/`: one after another, from the front of the bytes. Assumes nothing.
use Rattle.std.specs.Prelude.{ℕ, zero, suc, ◌+◌, ◌/◌, Bool, ◌&&◌, cond, List, [], ◌∷◌, leb, length, take, drop}
use Rattle.rules.specs.declared.field.Atom.{Atom}
use Rattle.rules.specs.declared.field.Tag.{Tag}
use Rattle.rules.specs.Rules.{Field}
use Rattle.rules.specs.Contents.{ContentFits}
use Rattle.rules.specs.Reading.{tag_of, head_of, content_of, atoms_of, rule_of, size_of}

-- the whole atoms that the bytes are
abbrev pub atoms_in : List ℕ → List Atom
atoms_in bytes = atoms_of (length bytes / 5) bytes

-- a field as it stands in the bytes: its place, its kind and its content
pub record Framed : Type 0 where
  pub place : ℕ
  pub kind : Tag
  pub content : List ℕ

-- whether a field stands whole at the front of the bytes
unfoldable pub is_whole : List ℕ → Bool
is_whole bytes = leb 3 (length bytes) && leb (size_of bytes) (length bytes)

-- the field that stands there
unfoldable pub frame_of : ℕ → List ℕ → Framed
frame_of place bytes = record { place = place; kind = tag_of (head_of bytes).tag; content = take (head_of bytes).length (content_of bytes) }

-- so many fields at most, one behind the other, the first at a place; they end where none stands whole
unfoldable pub frames_of : ℕ → ℕ → List ℕ → List Framed
frames_of zero place bytes = []
frames_of (suc k) place bytes = cond (is_whole bytes) (frame_of place bytes ∷ frames_of k (place + size_of bytes) (drop (size_of bytes) bytes)) []

-- all of them: each takes 3 bytes or more
abbrev pub frames_from : ℕ → List ℕ → List Framed
frames_from place bytes = frames_of (length bytes) place bytes

-- the fields behind the header of a file
abbrev pub frames_in : List ℕ → List Framed
frames_in input = frames_from 5 (drop 5 input)

-- the rule that a field is, at its place
abbrev pub as_field : Framed → Field
as_field f = record { place = f.place; rule = rule_of f.kind (length f.content) f.content }

-- its content is whole atoms or positions, each from 1 to v
abbrev pub FrameFits : ℕ → Framed → Type 0
FrameFits v f = ContentFits f.kind v (length f.content) f.content
