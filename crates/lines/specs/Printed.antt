-- What is printed for a reply, and what is printed and said for a file: the promises of `text` and `answer`. The contracts of `src/reply.rt` and `src/answer.rt`
-- cite these. Assumes nothing.
use Rattle.std.specs.Prelude.{◌≡◌, List, ℕ, take, replicate}
use Rattle.rules.specs.Reading.{Reading, sound, refused, reading}
use Rattle.searching.specs.declared.reply.Reply.{Reply}
use Rattle.planner.specs.Promise.{Planned}
use Rattle.texts.specs.declared.Text.{Text}
use Rattle.texts.specs.Grown.{line_of}
use Rattle.reasons.specs.Words.{Reasoned}
use Rattle.lines.specs.declared.answer.Output.{Output}
use Rattle.lines.specs.Text.{text_of}

-- the text is that of a reply, where the first v values are a plan's
abbrev pub Shown : Reply → List ℕ → ℕ → Text → Type 0
Shown reply values v text = text ≡ line_of (text_of reply (take v values))

-- the number of positions of a file that was read; 0 where it is refused
unfoldable pub positions_of : Reading → ℕ
positions_of (sound file) = file.v
positions_of (refused number place) = 0

-- there are a reply and a later buffer that the planner promises for this input, 100,000 splits and a buffer of 64 zeros; the text that is printed is
-- that of this reply with the values of the file's own positions, and what is said are the words for this reply
pub record Printed (input : List ℕ) (output : Output) : Type 0 where
  pub reply : Reply
  pub after : List ℕ
  pub planned : Planned input (replicate 64 0) after 100000 reply
  pub printed : Shown reply after (positions_of (reading input)) output.printed
  pub said : Reasoned reply.number reply.place output.said
