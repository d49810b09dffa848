-- A reply in code against the reply of the definitions, what it leaves in the buffer, what a search is given, and counts that fit. Assumes nothing.
use Rattle.std.specs.Prelude.{ℕ, ◌≤◌, ◌≡◌, List, length, Result, Ok, Err}
use Rattle.lists.specs.Buffer.{over}
use Rattle.rules.specs.Sound.{fields_in}
use Rattle.steps.specs.Boxes.{Rooms}
use Rattle.steps.specs.Shrinking.{Look, dead, alive, shrunk}
use Rattle.steps.specs.Reply as steps
use Rattle.rooms.specs.Held.{Held}
use Rattle.boxes.specs.declared.shrink.Dead.{Dead}
use Rattle.searching.specs.declared.reply.Reply.{Reply}

-- the reply of the definitions as the code gives it
abbrev pub told : steps.Reply → Reply
told given = record { number = given.number; place = given.place; splits = given.splits; dead_ends = given.dead_ends; rounds = given.rounds }

-- the reply r is the one that is given, and the buffer has its values in front of the bytes that it had
pub record Answered (given : steps.Reply) (r : Reply) (before after : List ℕ) : Type 0 where
  pub reply : r ≡ told given
  pub memory : after ≡ over given.values before

-- what shrinking has found, by the verdict and the rooms
unfoldable pub found_by : Result (Unit {0}) Dead → Held → Look
found_by (Err field) rooms = dead field.place
found_by (Ok _) rooms = alive rooms.box

-- it was found by shrinking a box of as many rooms, none of them empty, under the rules of the file
pub record WasShrunk (input : List ℕ) (verdict : Result (Unit {0}) Dead) (rooms : Held) : Type 0 where
  pub box : List ℕ
  pub full : Rooms box
  pub positions : length box ≡ length rooms.box
  pub found : found_by verdict rooms ≡ shrunk (fields_in input) box

-- counts that fit: no more dead ends than splits so far, no more splits than allowed, and no more allowed than 01's ceiling
pub record Counts (allowed splits dead_ends : ℕ) : Type 0 where
  pub ceiling : allowed ≤ 1000000
  pub within : splits ≤ allowed
  pub fewer : dead_ends ≤ splits
