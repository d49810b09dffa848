-- 01's twelve starred cases, the two of R-3, the five of R-10, the four of R-6, the nine of R-12 and the five of R-14 over the promise itself: `starred-planned`. Assumes nothing.
use mathlib.Core.Path.{◌≡◌, sym, ◌∙◌}
use mathlib.Core.List.{List}
use Prim.Native.Nat.{ℕ, ◌≤◌}
use borrow.Author.Tests.{le-ltb}
use lib.ListN.{length}
use Rattle.lists.specs.Lists.{Every}
use Rattle.lists.proofs.ListLaws.{every_map}
use Rattle.steps.specs.Table.{reply_of}
use Rattle.steps.specs.Cases.{Case, starred, unmet, in_rounds, started, at_mosts, late}
use Rattle.steps.proofs.StarredCases.{Holds, starred_hold}
use Rattle.searching.specs.declared.reply.Reply.{Reply}
use Rattle.searching.specs.Answered.{Answered}
use Rattle.searching.proofs.AnsweredLaws.{answers}
use Rattle.planner.specs.Promise.{Planned}

-- the reply is the same for every buffer of 64 bytes or more
reply-roomy : (input : List ℕ) (buffer allowed : ℕ) → 64 ≤ buffer → reply_of input buffer allowed ≡ reply_of input 64 allowed
unfolding reply_of
reply-roomy input buffer allowed roomy = simp (le-ltb buffer 64 roomy)

-- whatever the buffer, a reply that the promise allows is the case's, and the buffer has its values in front of the bytes that it had
abbrev pub Promised : Case → Type 0
Promised c =
    (before after : List ℕ) (r : Reply) → 64 ≤ length before → Planned c.bytes before after c.allowed r
    → Answered c.reply r before after

-- each starred case, and each of R-3, R-10, R-6, R-12 and R-14
pub starred-planned : Every Promised starred × Every Promised unmet × Every Promised in_rounds × Every Promised started × Every Promised at_mosts × Every Promised late
starred-planned = (
  every_map Holds Promised starred promised starred_hold.0,
  every_map Holds Promised unmet promised starred_hold.1,
  every_map Holds Promised in_rounds promised starred_hold.2,
  every_map Holds Promised started promised starred_hold.3,
  every_map Holds Promised at_mosts promised starred_hold.4,
  every_map Holds Promised late promised starred_hold.5,
)
  where
    promised : (c : Case) → Holds c → Promised c
    promised c holds before after r roomy planned =
        let same : reply_of c.bytes (length before) c.allowed ≡ c.reply = reply-roomy c.bytes (length before) c.allowed roomy ∙ holds in
        answers (sym same) planned.answered
