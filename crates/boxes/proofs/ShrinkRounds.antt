-- Laws of rounds and of shrinking over the rooms of positions: what is still to be done, and what is left. Assumes nothing.
use mathlib.Core.Path.{◌≡◌, refl, sym, ap, ap₂, ◌∙◌, subst}
use mathlib.Core.Bool.{Bool, true, false}
use mathlib.Core.List.{List, [], ◌∷◌, map}
use Prim.Native.Nat.{ℕ, ◌+◌, ◌≤◌, ◌<◌}
use native.Mathlib.Omega.{arith}
use lib.ListN.{length}
use Rattle.std.specs.Prelude.{Result, Err}
use Rattle.lists.specs.Lists.{Every}
use Rattle.rules.specs.Rules.{Field}
use Rattle.rules.specs.Reading.{rule_of}
use Rattle.rules.specs.Contents.{ContentFits}
use Rattle.rules.specs.Sound.{fields_in, SoundInput}
use Rattle.rules.specs.Each.{Framed, frames_in, as_field, FrameFits}
use Rattle.rules.proofs.Reading.FrameLaws.{frames_sound}
use Rattle.steps.specs.Boxes.{open_values, BoxInside, Rooms}
use Rattle.steps.specs.Shrinking.{Look, dead, alive, look_rule, look_field, in_turn, round, shrunk}
use Rattle.steps.specs.Rounds.{rounds_of, rounds_most}
use Rattle.steps.proofs.Boxes.BoxLaws.{box-inside-length}
use Rattle.steps.proofs.Boxes.BoxSizes.{open_falls, spare-most}
use Rattle.steps.proofs.Looks.RuleLaws.{rule-place}
use Rattle.steps.proofs.Looks.ShrinkLaws.{round-inside}
use Rattle.steps.proofs.Looks.RoundLaws.{rounds-least, rounds-bound, round_dies, round_rests, round_goes}
use Rattle.rooms.specs.Held.{Held, with_box}
use Rattle.rooms.specs.Looks.{AfterLook, Leaves}
use Rattle.boxes.specs.declared.shrink.Dead.{Dead}
use Rattle.boxes.specs.Rounds.{Rounded, lives, dead_at, verdict_of, without_values, rooms_left}
use Rattle.boxes.specs.Promise.{Shrinks}
use Rattle.boxes.proofs.LooksInTurn.{LeftToLook, left_all, left-none, left-dead, left_then, rule_keeps, after-alive, after_dead}

-- ---- a round

-- a round over the rooms of positions has come to these fields: they are left, and fit
pub record Going (s : List ℕ) (start : Held) (frames : List Framed) (now : Held) : Type 0 where
  pub fit : Every (FrameFits (length start.box)) frames
  pub looks : LeftToLook (λ place. look_field) (λ place. round) (fields_in s) (map as_field frames) start now

-- it starts behind the header
pub going_start : (s : List ℕ) (start : Held) {frames : List Framed} → SoundInput s (length start.box) → frames ≡ frames_in s → Going s start frames start
going_start s start {frames} sound all =
    let framing = frames_sound sound in
    subst (λ (fs : List Framed). Going s start fs start) (sym all)
    (record { fit = framing.fit; looks = left_all (λ place box. ap (λ (fields : List Field). in_turn look_field fields box) (sym framing.fields)) start })

module _ {s : List ℕ} {start now : Held} {frames : List Framed} (going : Going s start frames now) where
  -- at the end the rooms are what the round leaves
  pub going_end : frames ≡ [] → Rounded s start lives now
  going_end end = record { leaves = left-none going.looks (ap (map as_field) end) dead_at lives 0 }

  module _ {f : Framed} {more : List Framed} (next : frames ≡ f ∷ more) where
    all_fit : FrameFits (length start.box) f × Every (FrameFits (length start.box)) more
    all_fit = subst (Every (FrameFits (length start.box))) next going.fit

    -- the content of the next field fits
    pub going-fits : ContentFits f.kind (length now.box) (length f.content) f.content
    going-fits = subst (λ (v : ℕ). ContentFits f.kind v (length f.content) f.content) going.looks.long all_fit.0

    module _ {r : Bool} {after : Held} (found : Leaves look_rule (rule_of f.kind (length f.content) f.content) now r after) where
      first : map as_field frames ≡ as_field f ∷ map as_field more
      first = ap (map as_field) next

      here_found : Leaves (λ place. look_field) (as_field f) now r after
      here_found = record { by = λ place. found.by f.place }

      -- where the look at the field is dead, the round is
      pub going-dead : r ≡ false → Rounded s start (dead_at f.place) after
      going-dead died =
          let d = left-dead going.looks first here_found died 0 in
          let here = rule-place f.place (as_field f).rule now.box d.0 d.1 in
          record { leaves = subst (λ (l : Look). AfterLook dead_at lives l (dead_at f.place) after start.rest) (sym (d.2 ∙ ap dead here)) refl }

      -- else the round goes on behind it
      pub going_on : r ≡ true → Going s start more after
      going_on t = record { fit = all_fit.1; looks = left_then going.looks first here_found (λ place k. rule_keeps f.place (as_field f).rule k) t }

-- ---- shrinking

-- shrinking has come to these rooms, and to the round of this number: shrinking them makes the whole of it
pub record Cutting (s : List ℕ) (start now : Held) (rounds : ℕ) : Type 0 where
  pub whole : shrunk (fields_in s) start.box ≡ shrunk (fields_in s) now.box
  pub counted : rounds_of (fields_in s) start.box + 1 ≡ rounds + rounds_of (fields_in s) now.box
  pub fine : Rooms now.box
  pub behind : now.rest ≡ start.rest
  pub long : length start.box ≡ length now.box

-- it starts with the first
pub cutting_start : (s : List ℕ) (start : Held) → Rooms start.box → Cutting s start start 1
cutting_start s start full = record { whole = refl; counted = omega arith; fine = full; behind = refl; long = refl }

-- there never are many rounds
pub rounds_small : {s : List ℕ} {start now : Held} {rounds : ℕ} → length start.box ≤ 64 → Rooms start.box → Cutting s start now rounds → rounds ≤ 1985
unfolding rounds_most
rounds_small {s} {start} {now} few full cutting =
    omega (arith, cutting.counted, rounds-least (fields_in s) now.box cutting.fine, rounds-bound (fields_in s) start.box full, spare-most start.box full)

module _ {s : List ℕ} {start now : Held} {rounds : ℕ} (cutting : Cutting s start now rounds) {r : Result (Unit {0}) Dead} {after : Held} (rounded : Rounded s now r after) where
  abbrev fields : List Field
  fields = fields_in s

  -- the answer and the rooms, where shrinking these rooms takes one round and comes to l
  answered : (l : Look) → (shrunk fields now.box ≡ l) × (rounds_of fields now.box ≡ 1) → {left : Held} → left ≡ rooms_left l start
      → Shrinks s start (record { verdict = verdict_of l; rounds = rounds }) left
  answered l last e =
      let found : l ≡ shrunk fields start.box = sym (cutting.whole ∙ last.0) in
      record {
        answer = ap₂ (λ (m : Look) (k : ℕ). record { verdict = verdict_of m; rounds = k }) found (omega (arith, cutting.counted, last.1));
        rooms = e ∙ ap (λ (m : Look). rooms_left m start) found;
      }

  -- where the next round is dead, so is the whole
  pub cutting-dead : (d : Dead) → r ≡ Err d → {left : Held} → left ≡ without_values (length now.box) → Shrinks s start (record { verdict = Err d; rounds = rounds }) left
  unfolding verdict_of rooms_left
  cutting-dead d e none =
      let found = after_dead dead_at lives (round fields now.box) r after now.rest rounded.leaves (λ f. let z : ◌≡◌ {A = ℕ} 0 1 = cc in omega arith) in
      let same : found.0 ≡ d.place = let f = found.2 in cc in
      answered (dead d.place) (round_dies fields now.box cutting.fine d.place (found.1 ∙ ap dead same))
      (none ∙ ap without_values (sym cutting.long))

  module _ (living : r ≡ lives) where
    found : (box : List ℕ) × (round fields now.box ≡ alive box) × (after ≡ with_box box now)
    found = after-alive dead_at lives (round fields now.box) r after now.rest rounded.leaves (λ p e. let z : ◌≡◌ {A = ℕ} 0 1 = cc in omega arith)

    -- what the next round leaves
    next-round : round fields now.box ≡ alive after.box
    next-round = found.1 ∙ ap (λ (held : Held). alive held.box) (sym found.2)

    -- where it changes nothing, the rooms are left
    pub cutting_done : after.box ≡ now.box → Shrinks s start (record { verdict = lives; rounds = rounds }) now
    unfolding verdict_of rooms_left
    cutting_done same =
        answered (alive now.box) (round_rests fields now.box cutting.fine (next-round ∙ ap alive same)) (λ i. record { box = now.box; rest = cutting.behind i })

    module _ (changed : after.box ≡ now.box → ⊥) where
      inward : BoxInside after.box now.box × Rooms after.box
      inward = round-inside fields now.box after.box cutting.fine next-round

      -- else an open value is gone
      pub cutting_falls : open_values after.box < open_values now.box
      cutting_falls = open_falls after.box now.box inward.1 cutting.fine inward.0 changed

      -- and shrinking goes on with its rooms
      pub cutting_on : Cutting s start after (rounds + 1)
      cutting_on =
          let on = round_goes fields now.box cutting.fine after.box next-round changed in
          record {
            whole = cutting.whole ∙ on.0;
            counted = omega (arith, cutting.counted, on.1);
            fine = inward.1;
            behind = ap (λ (held : Held). held.rest) found.2 ∙ cutting.behind;
            long = cutting.long ∙ sym (box-inside-length after.box now.box inward.0);
          }
