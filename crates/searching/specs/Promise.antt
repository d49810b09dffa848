-- What the public functions of `src/` promise. Their contracts and the theorems that each allows one result cite these. Assumes nothing.
use Rattle.std.specs.Prelude.{ℕ, ◌≡◌, List, leb, Result}
use Rattle.rules.specs.Sound.{fields_in}
use Rattle.steps.specs.Search.{after_shrinking, searched}
use Rattle.steps.specs.Rounds.{rounds_of}
use Rattle.steps.specs.Reply.{ended, none, with_rounds, refusal}
use Rattle.rooms.specs.Held.{Held}
use Rattle.boxes.specs.declared.shrink.Dead.{Dead}
use Rattle.searching.specs.declared.reply.Reply.{Reply}
use Rattle.searching.specs.Answered.{told, Answered, found_by}

-- `Reply::ended`: the number and the counts, at place 0
abbrev pub Ends : ℕ → ℕ → ℕ → Reply → Type 0
Ends number splits dead_ends r = r ≡ told (ended number 0 splits dead_ends)

-- `Reply::none`: NONE with these counts, at the place where there was no split, and else at 0
abbrev pub NoneAt : ℕ → ℕ → ℕ → Reply → Type 0
NoneAt place splits dead_ends r = r ≡ told (none place splits dead_ends)

-- `Reply::refused`: the number and the place, with no split, no dead end and no round
abbrev pub Refuses : ℕ → ℕ → Reply → Type 0
Refuses number place r = r ≡ told (refusal number place)

-- `Reply::with_rounds`: the same reply with these rounds
abbrev pub HasRounds : Reply → ℕ → Reply → Type 0
HasRounds given rounds r = r ≡ record { number = given.number; place = given.place; splits = given.splits; dead_ends = given.dead_ends; rounds = rounds }

-- `search`: the reply of the search of a box of rooms, by what shrinking it under the file's rules has found, and its values in the buffer
abbrev pub Searches : List ℕ → ℕ → Result (Unit {0}) Dead → Held → ℕ → ℕ → List ℕ → Reply → List ℕ → Type 0
Searches input allowed verdict rooms splits dead_ends before r after =
    Answered (after_shrinking (fields_in input) (leb allowed) (found_by verdict rooms) splits dead_ends (searched (fields_in input) allowed)) r before after

-- `search_from`: the reply of the search that starts with these rooms under the file's rules, with the rounds that shrinking them takes, and its values in the buffer
abbrev pub SearchesFrom : List ℕ → ℕ → Held → List ℕ → Reply → List ℕ → Type 0
SearchesFrom input allowed rooms before r after =
    Answered (with_rounds (rounds_of (fields_in input) rooms.box) (searched (fields_in input) allowed rooms.box 0 0)) r before after
