-- Laws of the rooms of positions, which stand in front of an array of rooms: how many they are, the room of one, and one that is put in the place of another. Assumes nothing.
use Rattle.std.proofs.Common.{ℕ, ◌≡◌, ◌≤◌, ◌<◌, sym, ap, ◌∙◌, List, arith, length, get_or, set, take, drop, length-take-le}
use Rattle.std.proofs.lemmas.List.{get_or_default, drop-set-lt}
use lib.Seq.{get_or-take, take-set-lt}
use Rattle.rooms.specs.Held.{Held, with_box}

-- an array of 64 rooms, of which the first n are those of positions, is seen as this value
pub record Seen (n : ℕ) (rooms : List ℕ) (held : Held) : Type 0 where
  pub few : n ≤ 64
  pub array : length rooms ≡ 64
  pub view : ◌≡◌ {A = Held} (record { box = take n rooms; rest = drop n rooms }) held

module _ {n : ℕ} {rooms : List ℕ} {held : Held} (seen : Seen n rooms held) where
  pub seen_box : take n rooms ≡ held.box
  seen_box = ap (λ (h : Held). h.box) seen.view

  -- there are n of them
  pub seen-length : n ≡ length held.box
  seen-length = sym (length-take-le n rooms (omega (arith, seen.few, seen.array))) ∙ ap length seen_box

  -- the room at an index
  pub seen_room : (i d : ℕ) → i < length held.box → get_or rooms i d ≡ get_or held.box i 0
  seen_room i d there =
      let below : i < n = omega (arith, there, seen-length) in
      get_or_default rooms i d 0 (omega (arith, below, seen.few, seen.array)) ∙ sym (get_or-take n rooms i 0 below) ∙ ap (λ (box : List ℕ). get_or box i 0) seen_box

  -- another room in the place of the one at an index
  pub seen-set : (i room : ℕ) → i < length held.box → ◌≡◌ {A = Held} (record { box = take n (set rooms i room); rest = drop n (set rooms i room) }) (with_box (set held.box i room) held)
  seen-set i room there =
      let below : i < n = omega (arith, there, seen-length) in
      λ j. record {
        box = (take-set-lt n rooms i room below ∙ ap (λ (box : List ℕ). set box i room) seen_box) j;
        rest = (drop-set-lt n rooms i room below ∙ ap (λ (h : Held). h.rest) seen.view) j;
      }
