-- What a reply says of a later call (R-14): on the same bytes with more rules behind them, or with a larger allowance. Assumes nothing.
use Rattle.std.specs.Prelude.{ℕ, ◌≤◌, ◌≡◌, List, take}
use Rattle.lists.specs.Buffer.{over}
use Rattle.rules.specs.Meaning.{NotEarlier}
use Rattle.searching.specs.declared.reply.Reply.{Reply}

-- a reply is decided: it is PLAN or NONE
abbrev pub Decided : Reply → Type 0
Decided r = r.number ≤ 1

-- Rules were added behind a file of v positions: r and `after` are the reply and the buffer of a call without them, s and `later` those of a call with them.
pub record RulesAdded (v : ℕ) (r : Reply) (after : List ℕ) (s : Reply) (later : List ℕ) : Type 0 where
  -- yesterday's NONE stays NONE, wherever today's call is decided
  pub none : r.number ≡ 1 → Decided s → s.number ≡ 1
  -- of two plans today's is not earlier in dictionary order
  pub plan : r.number ≡ 0 → s.number ≡ 0 → NotEarlier (take v later) (take v after)

-- The allowance was raised for a file of v positions: r and `after` are the reply and the buffer of a call that was decided, s is the reply of the call with the larger allowance, and
-- `later` what that call makes of the buffer `before`.
pub record Stays (v : ℕ) (r : Reply) (after : List ℕ) (s : Reply) (before later : List ℕ) : Type 0 where
  -- the whole reply stays: number, place, splits, dead ends and rounds
  pub reply : s ≡ r
  -- a plan is written again, value by value, and NONE leaves the buffer as it was
  pub plan : r.number ≡ 0 → later ≡ over (take v after) before
  pub none : r.number ≡ 1 → later ≡ before
