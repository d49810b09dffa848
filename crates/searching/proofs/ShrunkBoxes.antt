-- What `shrink` answers is what shrinking the box has found (`shrunk-found`, `was-shrunk`); the search by what was found is the search of the box (`searched-found`, `found_from`). Assumes nothing.
use mathlib.Core.Path.{◌≡◌, refl, sym, ap, ap₂, ◌∙◌, subst}
use mathlib.Core.List.{List}
use Prim.Native.Nat.{ℕ, ◌≤◌}
use native.Mathlib.Omega.{arith}
use lib.Dec.{leb}
use lib.ListN.{length}
use Rattle.std.proofs.lemmas.List.{length-replicate}
use Rattle.std.specs.Prelude.{Result}
use Rattle.rooms.specs.Held.{Held}
use Rattle.rules.specs.Rules.{Field}
use Rattle.rules.specs.Sound.{fields_in}
use Rattle.steps.specs.Boxes.{open_values, Rooms}
use Rattle.steps.specs.Shrinking.{Look, dead, alive, shrunk}
use Rattle.steps.specs.Search.{after_shrinking, searched}
use Rattle.steps.proofs.Boxes.BoxLaws.{box-inside-length}
use Rattle.steps.proofs.Boxes.BoxSizes.{open-inside}
use Rattle.steps.proofs.Looks.FittingRules.{FieldsFit, FitsBox}
use Rattle.steps.proofs.Looks.ShrinkLaws.{shrunk-inside}
use Rattle.steps.proofs.Search.Walk.{searched_equation}
use Rattle.boxes.specs.declared.shrink.Shrunk.{Shrunk}
use Rattle.boxes.specs.declared.shrink.Dead.{Dead}
use Rattle.boxes.specs.Rounds.{verdict_of, rooms_left}
use Rattle.boxes.specs.Promise.{Shrinks}
use Rattle.searching.specs.declared.reply.Reply.{Reply}
use Rattle.searching.specs.Answered.{found_by, WasShrunk}
use Rattle.searching.specs.Promise.{HasRounds, Searches, SearchesFrom}
use Rattle.searching.proofs.AnsweredLaws.{answers, rounds-answered}

-- the number of open values of what was found: none in a dead box
abbrev pub open_found : Look → ℕ
open_found (dead place) = 0
open_found (alive box) = open_values box

module _ (fields : List Field) (box : List ℕ) (full : Rooms box) where
  -- shrinking leaves no more open values than there are
  pub open-found : open_found (shrunk fields box) ≤ open_values box
  open-found = go (shrunk fields box) refl
    where
      go : (l : Look) → shrunk fields box ≡ l → open_found l ≤ open_values box
      go (dead place) e = omega arith
      go (alive inner) e = let i = shrunk-inside fields box inner full e in open-inside inner box i.1 full i.0

  -- the verdict and the rooms that are left say what shrinking them has found, and there are as many
  found_of : (before : Held) → before.box ≡ box → {verdict : Result (Unit {0}) Dead} {rooms : Held} → verdict ≡ verdict_of (shrunk fields box) → rooms ≡ rooms_left (shrunk fields box) before
      → (found_by verdict rooms ≡ shrunk fields box) × (length rooms.box ≡ length box)
  unfolding verdict_of rooms_left found_by
  found_of before here told left = (ap₂ found_by told left ∙ (go (shrunk fields box) refl).0, ap (λ (h : Held). length h.box) left ∙ (go (shrunk fields box) refl).1)
    where
      go : (l : Look) → shrunk fields box ≡ l → (found_by (verdict_of l) (rooms_left l before) ≡ l) × (length (rooms_left l before).box ≡ length box)
      go (dead place) e = (refl, length-replicate (length before.box) 0 ∙ ap length here)
      go (alive inner) e = (refl, box-inside-length inner box (shrunk-inside fields box inner full e).0)

  -- the search goes on from what was found as from the box
  pub searched-found : FitsBox fields box → {found : Look} → found ≡ shrunk fields box → (allowed s d : ℕ)
      → after_shrinking fields (leb allowed) found s d (searched fields allowed) ≡ searched fields allowed box s d
  searched-found fits e allowed s d =
      ap (λ (l : Look). after_shrinking fields (leb allowed) l s d (searched fields allowed)) e ∙ sym (searched_equation fields box full fits allowed s d)

-- ---- the rooms of positions, shrunk by the code

module _ (input : List ℕ) (rooms : Held) (full : Rooms rooms.box) {r : Shrunk} {left : Held} (is : Shrinks input rooms r left) where
  both : (found_by r.verdict left ≡ shrunk (fields_in input) rooms.box) × (length left.box ≡ length rooms.box)
  both = found_of (fields_in input) rooms.box full rooms refl (ap (λ (s : Shrunk). s.verdict) is.answer) is.rooms

  -- what was found of them
  pub shrunk-found : found_by r.verdict left ≡ shrunk (fields_in input) rooms.box
  shrunk-found = both.0

  -- there are as many left
  pub shrunk-length : length left.box ≡ length rooms.box
  shrunk-length = both.1

  -- they may be searched
  pub was-shrunk : WasShrunk input r.verdict left
  was-shrunk = record { box = rooms.box; full = full; positions = sym shrunk-length; found = shrunk-found }

  -- and what a search of them gives, with its rounds, is the search that starts with these rooms
  pub found_from : FieldsFit (length rooms.box) (fields_in input) → (allowed : ℕ) {q s : Reply} {before after : List ℕ} → Searches input allowed r.verdict left 0 0 before q after
      → HasRounds q r.rounds s → SearchesFrom input allowed rooms before s after
  found_from fits allowed found has =
      rounds-answered (answers (sym (searched-found (fields_in input) rooms.box full fits shrunk-found allowed 0 0)) found) has (ap (λ (s : Shrunk). s.rounds) is.answer)
