-- Any two results that the promises of `src/` allow are equal. Assumes nothing.
use mathlib.Core.Path.{◌≡◌}
use mathlib.Core.List.{List}
use Prim.Native.Nat.{ℕ}
use Rattle.sets.proofs.Unique.{one-result}
use Rattle.std.specs.Prelude.{Result}
use Rattle.rooms.specs.Held.{Held}
use Rattle.boxes.specs.declared.shrink.Dead.{Dead}
use Rattle.searching.specs.declared.reply.Reply.{Reply}
use Rattle.searching.proofs.AnsweredLaws.{answered_unique}
use Rattle.searching.specs.Promise.{Ends, NoneAt, Refuses, HasRounds, Searches, SearchesFrom}

pub ended_unique : (number splits dead_ends : ℕ) {r s : Reply} → Ends number splits dead_ends r → Ends number splits dead_ends s → r ≡ s
ended_unique number splits dead_ends p q = one-result p q

pub none_unique : (place splits dead_ends : ℕ) {r s : Reply} → NoneAt place splits dead_ends r → NoneAt place splits dead_ends s → r ≡ s
none_unique place splits dead_ends p q = one-result p q

pub refused_unique : (number place : ℕ) {r s : Reply} → Refuses number place r → Refuses number place s → r ≡ s
refused_unique number place p q = one-result p q

pub with_rounds_unique : (given : Reply) (rounds : ℕ) {r s : Reply} → HasRounds given rounds r → HasRounds given rounds s → r ≡ s
with_rounds_unique given rounds p q = one-result p q

pub search_unique : (input : List ℕ) (allowed : ℕ) (verdict : Result (Unit {0}) Dead) (rooms : Held) (splits dead_ends : ℕ) (before after after' : List ℕ) (r s : Reply)
    → Searches input allowed verdict rooms splits dead_ends before r after → Searches input allowed verdict rooms splits dead_ends before s after'
    → (r ≡ s) × (after ≡ after')
search_unique input allowed verdict rooms splits dead_ends before after after' r s p q = answered_unique p q

pub search-from_unique : (input : List ℕ) (allowed : ℕ) (rooms : Held) (before after after' : List ℕ) (r s : Reply)
    → SearchesFrom input allowed rooms before r after → SearchesFrom input allowed rooms before s after' → (r ≡ s) × (after ≡ after')
search-from_unique input allowed rooms before after after' r s p q = answered_unique p q
