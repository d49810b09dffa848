-- `searching::search::search` meets its contract: a dead box, a settled one, and one that may not be split end; of any other both halves may be searched, and give its reply. Assumes nothing.
use Rattle.std.proofs.Common.{◌≡◌, sym, ap, ◌∙◌, subst, List, ℕ, ◌≤◌, ◌<◌, length, arith, rules}
use Rattle.std.specs.Prelude.{Result, None}
use Rattle.choosing.specs.Promise.{Chooses}
use Rattle.splitting.specs.Promise.{WritesSmallest}
use Rattle.rules.specs.Sound.{SoundInput}
use Rattle.steps.proofs.Looks.FittingRules.{sound_fits}
use Rattle.rooms.specs.Held.{Held}
use Rattle.boxes.specs.declared.shrink.Dead.{Dead}
use Rattle.searching.specs.Answered.{WasShrunk, Counts}
use Rattle.searching.proofs.Turns.{Given, Split, saved_of, ends-dead, ends-settled, ends-undecided, first_of, other_of, half-rooms, half_length, half_next, half-searched}
use Rattle.searching.proofs.Turns.{ends-first, none_kept, ends_second, first_counted}
use Rattle.searching.proofs.search.+search.Goals as goal
use Rattle.searching.proofs.search.+search.Goals.{In-Some}

-- what a call is given
abbrev given : {input : List ℕ} {verdict : Result (Unit {0}) Dead} {rooms : Held} {allowed splits dead_ends : ℕ} (before : List ℕ)
    → SoundInput input (length rooms.box) × WasShrunk input verdict rooms × Counts allowed splits dead_ends × (64 ≤ length before) → Given
given {input} {verdict} {rooms} {allowed} {splits} {dead_ends} before asked = record {
  input = input;
  verdict = verdict;
  rooms = rooms;
  allowed = allowed;
  splits = splits;
  dead_ends = dead_ends;
  before = before;
  was = asked.1;
  fits = sound_fits input (length rooms.box) asked.0;
}

-- the file is sound for as many rooms
sound_for : {input : List ℕ} {v w : ℕ} → v ≡ w → SoundInput input w → SoundInput input v
sound_for {input} e sound = subst (SoundInput input) (sym e) sound

-- a box that is split, at the index that is chosen
split_of : (t : ℕ) (c : In-Some t) → Split (given c.args.answer.now c.requires) c.in-Some.i
split_of t c = record { kept = saved_of (given c.args.answer.now c.requires) c.in_default.is; chooses = search rules }

-- ---- the ends of a box that is not split

pub returns-in-Err : goal.returns-in-Err
returns-in-Err t c = ends-dead (given c.args.answer.now c.requires) c.in-Err.dead c.in-Err.is c.none.ensures

pub returns-in_default-chosen : goal.returns-in_default-chosen
returns-in_default-chosen t c =
    let g = given c.args.answer.now c.requires in
    let nothing : Chooses c.args.input.now c.args.rooms None = search rules in
    let written : WritesSmallest c.args.rooms c.args.answer.now c.write_smallest.new.answer = search rules in
    ends-settled g (saved_of g c.in_default.is) nothing written c.ended.ensures

pub returns-then-allowed-splits : goal.returns-then-allowed-splits
returns-then-allowed-splits t c =
    let g = given c.args.answer.now c.requires in
    let split = split_of t (goal.at.returns-then-allowed-splits t c).In-Some in
    ends-undecided g split c.if-allowed-splits.true c.ended-then-allowed-splits.ensures

-- ---- the first half

pub shrink-low-requires : goal.shrink-low-requires
shrink-low-requires t c =
    let g = given c.args.answer.now c.requires in
    let split = split_of t (goal.at.shrink-low-requires t c).In-Some in
    let low = first_of g split c.keep_half.ensures in
    (sound_for (half_length g split low) c.requires.0, half-rooms g split low)

pub search-first-requires : goal.search-first-requires
search-first-requires t c =
    let g = given c.args.answer.now c.requires in
    let split = split_of t (goal.at.search-first-requires t c).In-Some in
    let next = half_next g split (first_of g split c.keep_half.ensures) c.shrink-low.ensures in
    let counts = c.requires.2 in (
      omega (arith, c.decreases, next.falls),
      (sound_for next.same c.requires.0, next.was, record { ceiling = omega arith; within = omega arith; fewer = omega arith }, c.requires.3),
    )

pub returns-then-first-ne-NONE : goal.returns-then-first-ne-NONE
returns-then-first-ne-NONE t c =
    let g = given c.args.answer.now c.requires in
    let split = split_of t (goal.at.returns-then-first-ne-NONE t c).In-Some in
    let low = first_of g split c.keep_half.ensures in
    let begun = half-searched g split low c.shrink-low.ensures _ _ c.search-first.ensures in
    ends-first g split low c.search-first.result begun c.if-allowed-splits.false (λ none. omega arith)

-- ---- the other half

pub shrink-high-requires : goal.shrink-high-requires
shrink-high-requires t c =
    let g = given c.args.answer.now c.requires in
    let split = split_of t (goal.at.shrink-high-requires t c).In-Some in
    let high = other_of g split c.keep_half-2.ensures in
    (sound_for (half_length g split high) c.requires.0, half-rooms g split high)

pub search-requires : goal.search-requires
search-requires t c =
    let g = given c.args.answer.now c.requires in
    let split = split_of t (goal.at.search-requires t c).In-Some in
    let low = first_of g split c.keep_half.ensures in
    let begun = half-searched g split low c.shrink-low.ensures _ _ c.search-first.ensures in
    let next = half_next g split (other_of g split c.keep_half-2.ensures) c.shrink-high.ensures in
    let long = subst (λ (b : List ℕ). 64 ≤ length b) (sym (none_kept g split low c.search-first.result begun (omega arith))) c.requires.3 in (
      omega (arith, c.decreases, next.falls),
      (sound_for next.same c.requires.0, next.was, first_counted g split low c.search-first.result begun c.requires.2 c.if-allowed-splits.false, long),
    )

pub returns : goal.returns
returns t c =
    let g = given c.args.answer.now c.requires in
    let split = split_of t (goal.at.returns t c).In-Some in
    let low = first_of g split c.keep_half.ensures in
    let begun = half-searched g split low c.shrink-low.ensures _ _ c.search-first.ensures in
    let high = other_of g split c.keep_half-2.ensures in
    ends_second g split low c.search-first.result begun c.if-allowed-splits.false (omega arith) (half-searched g split high c.shrink-high.ensures _ _ c.search.ensures)
