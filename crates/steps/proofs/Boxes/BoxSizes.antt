-- Laws of the number of open values, of those that may still go, and of the number of assignments of a box, of its two halves, and of its smallest values. Assumes nothing.
use mathlib.Core.Path.{◌≡◌, refl, sym, ap, ap₂, ◌∙◌}
use mathlib.Core.Logic.Iff
use mathlib.Core.Logic.{◌↔◌, ◌⊎◌, inl, inr, ⊎_elim, ⊎_map}
use mathlib.Core.Bool.{Bool, ◌&&◌}
use mathlib.Core.List.{List, [], ◌∷◌}
use Prim.Native.Nat.{ℕ, zero, suc, ◌+◌, ◌*◌, ◌-◌, ◌^◌, ◌≤◌, ◌<◌}
use native.Mathlib.Nat.{le_refl, zero-mul, suc-mul, add_comm, add-mul, mul-add, mul-le-mul, mul-pos, pow-zero, pow-succ'}
use native.Mathlib.Numerals.{lt_of_le_of_ne}
use native.Mathlib.Decide.{ℕ_discrete}
use native.Mathlib.Omega.{arith}
use lib.Dec.{T}
use lib.ListN.{length, get_or, set, length-replicate}
use lib.Seq.{get_or-set_same}
use Rattle.lists.proofs.TestLaws.{both_hold, le_holds}
use Rattle.sets.specs.Sets.{IsMember, full, single, inside, count, smallest, others}
use Rattle.sets.proofs.Members.{member-full, member-single}
use Rattle.sets.proofs.Sameness.{full_below, single_below}
use Rattle.sets.proofs.Counting.{count_positive, count-at_most, count-not_empty, count_of-single, count_of-full, count-inside, count_falls}
use Rattle.sets.proofs.Smallest.{smallest-least, smallest-member, smallest_range, single-inside}
use Rattle.sets.proofs.Smallest.{others_below, member-others, others-inside, count-others}
use Rattle.rules.specs.Meaning.{Assignment, NotEarlier}
use Rattle.steps.specs.Boxes.{start_box, open_values, spare_values, box_size, InBox, BoxInside, Rooms, wide, smallest_of, first_half, other_half}
use Rattle.steps.proofs.Boxes.BoxLaws.{in-box_at, in-box-set, box-inside-length, set-inside, rooms_at, rooms-set}

-- ---- one box inside another

-- a smaller box is the same box or has fewer open values
same-or_falls : (b c : List ℕ) → Rooms b → Rooms c → BoxInside b c → (b ≡ c) ⊎ (open_values b < open_values c)
unfolding open_values
same-or_falls [] [] hb hc i = inl refl
same-or_falls [] (s ∷ c) hb hc i = absurd i
same-or_falls (r ∷ b) [] hb hc i = absurd i
same-or_falls (r ∷ b) (s ∷ c) hb hc i = go (ℕ_discrete r s) (same-or_falls b c hb.1 hc.1 i.1)
  where
    go : Dec (r ≡ s) → (b ≡ c) ⊎ (open_values b < open_values c) → (r ∷ b ≡ s ∷ c) ⊎ (count r + open_values b < count s + open_values c)
    go (yes e) rest = ⊎_map (ap₂ ◌∷◌ e) (λ l. omega (arith, ap count e)) rest
    go (no apart) rest =
        let fewer = count_falls r s hb.0.0 hc.0.0 i.0 apart in
        inr (⊎_elim (λ e. omega (arith, ap open_values e)) (λ l. omega arith) rest)

-- a smaller box has no more open values
pub open-inside : (b c : List ℕ) → Rooms b → Rooms c → BoxInside b c → open_values b ≤ open_values c
open-inside b c hb hc i = ⊎_elim (λ e. omega (arith, ap open_values e)) (λ l. omega arith) (same-or_falls b c hb hc i)

-- a smaller box that is another box has fewer open values
pub open_falls : (b c : List ℕ) → Rooms b → Rooms c → BoxInside b c → (b ≡ c → ⊥) → open_values b < open_values c
open_falls b c hb hc i ne = ⊎_elim (λ e. absurd (ne e)) (λ l. l) (same-or_falls b c hb hc i)

-- ---- the values that rooms may still lose

-- the open values are those, and one in each room
pub open_spare : (box : List ℕ) → Rooms box → open_values box ≡ length box + spare_values box
unfolding open_values spare_values
open_spare [] rooms = refl
open_spare (room ∷ box) rooms = omega (arith, open_spare box rooms.1, count_positive room rooms.0.0 rooms.0.1)

-- they are at most 31 in each room
pub spare-most : (box : List ℕ) → Rooms box → spare_values box ≤ 31 * length box
unfolding spare_values
spare-most [] rooms = omega arith
spare-most (room ∷ box) rooms = omega (arith, spare-most box rooms.1, count-at_most room rooms.0.0)

-- a smaller box has no more of them
pub spare-inside : (b c : List ℕ) → Rooms b → Rooms c → BoxInside b c → spare_values b ≤ spare_values c
spare-inside b c hb hc i = omega (arith, open-inside b c hb hc i, open_spare b hb, open_spare c hc, box-inside-length b c i)

-- one that is another box has fewer
pub spare_falls : (b c : List ℕ) → Rooms b → Rooms c → BoxInside b c → (b ≡ c → ⊥) → spare_values b < spare_values c
spare_falls b c hb hc i ne = omega (arith, open_falls b c hb hc i ne, open_spare b hb, open_spare c hc, box-inside-length b c i)

-- ---- the number of assignments

-- a smaller box has no more assignments
pub size-inside : (b c : List ℕ) → Rooms b → Rooms c → BoxInside b c → box_size b ≤ box_size c
unfolding box_size
size-inside [] [] hb hc i = le_refl 1
size-inside [] (s ∷ c) hb hc i = absurd i
size-inside (r ∷ b) [] hb hc i = absurd i
size-inside (r ∷ b) (s ∷ c) hb hc i = mul-le-mul (count-inside r s hb.0.0 hc.0.0 i.0) (size-inside b c hb.1 hc.1 i.1)

-- a box without an empty room has an assignment
pub size_positive : (b : List ℕ) → Rooms b → 1 ≤ box_size b
unfolding box_size
size_positive [] h = le_refl 1
size_positive (r ∷ b) h = mul-pos (count_positive r h.0.0 h.0.1) (size_positive b h.1)

-- ---- rooms of two or more values

-- a room has two or more values, and a test holds
pub wide-and : (box : List ℕ) (i : ℕ) (b : Bool) → T (wide box i && b) ↔ ((2 ≤ count (get_or box i 0)) × T b)
wide-and box i b = Iff.trans (both_hold (wide box i) b) (Iff.and (le_holds 2 (count (get_or box i 0))) Iff.rfl)

-- ---- a room cut, and a room cut in two ways

-- the number of open values falls where a room loses values
cut_falls : (box : List ℕ) (i r : ℕ) → Rooms box → Rooms (set box i r) → i < length box
    → T (inside r (get_or box i 0)) → count r < count (get_or box i 0) → open_values (set box i r) < open_values box
cut_falls box i r rooms cut there t fewer = open_falls (set box i r) box cut rooms (set-inside box i r t) apart
  where
    apart : set box i r ≡ box → ⊥
    apart e =
        let same : count r ≡ count (get_or box i 0) = ap count (sym (get_or-set_same box i r 0 there) ∙ ap (λ (b : List ℕ). get_or b i 0) e) in
        omega arith

-- the assignments are shared out as the room's values are
parts_sizes : (box : List ℕ) (i r s : ℕ) → i < length box → count r + count s ≡ count (get_or box i 0)
    → box_size (set box i r) + box_size (set box i s) ≡ box_size box
unfolding box_size
parts_sizes [] i r s there e = absurd (omega arith)
parts_sizes (room ∷ box) zero r s there e = sym (add-mul (count r) (count s) (box_size box)) ∙ ap (λ (k : ℕ). k * box_size box) e
parts_sizes (room ∷ box) (suc i) r s there e =
    sym (mul-add (count room) (box_size (set box i r)) (box_size (set box i s))) ∙ ap (λ (k : ℕ). count room * k) (parts_sizes box i r s (omega arith) e)

-- ---- the two halves, at a room of two or more values

-- the smallest value of the room, and the two parts of the room
abbrev least : ℕ → List ℕ → ℕ
least i box = smallest (get_or box i 0)

abbrev first_part : ℕ → List ℕ → ℕ
first_part i box = single (least i box)

abbrev other_part : ℕ → List ℕ → ℕ
other_part i box = others (get_or box i 0)

module _ (box : List ℕ) (i : ℕ) (rooms : Rooms box) (there : i < length box) (two : 2 ≤ count (get_or box i 0)) where
  mask : get_or box i 0 < 2 ^ 32
  mask = (rooms_at box i rooms there).0

  some : get_or box i 0 ≡ 0 → ⊥
  some = (rooms_at box i rooms there).1

  range : (1 ≤ least i box) × (least i box ≤ 32)
  range = smallest_range (get_or box i 0) mask some

  first_count : count (first_part i box) ≡ 1
  first_count = count_of-single (least i box) range.0 range.1

  other-count : count (get_or box i 0) ≡ 1 + count (other_part i box)
  other-count = count-others (get_or box i 0) mask some

  first_part-inside : T (inside (first_part i box) (get_or box i 0))
  first_part-inside = single-inside (get_or box i 0) (least i box) (smallest-member (get_or box i 0) mask some)

  -- the rooms of the first half are masks, and none is empty
  pub first_half-rooms : Rooms (first_half i box)
  unfolding first_half
  first_half-rooms = rooms-set box i (first_part i box) rooms (single_below (least i box)) (count-not_empty (first_part i box) (omega (arith, first_count)))

  -- nor is one of the other half
  pub other_half-rooms : Rooms (other_half i box)
  unfolding other_half
  other_half-rooms = rooms-set box i (other_part i box) rooms (others_below (get_or box i 0) mask) (count-not_empty (other_part i box) (omega (arith, other-count)))

  -- the first half lies inside the box
  pub first_half-inside : BoxInside (first_half i box) box
  unfolding first_half
  first_half-inside = set-inside box i (first_part i box) first_part-inside

  -- so does the other half
  pub other_half-inside : BoxInside (other_half i box) box
  unfolding other_half
  other_half-inside = set-inside box i (other_part i box) (others-inside (get_or box i 0) mask)

  -- the number of open values falls in the first half
  pub first_half_falls : open_values (first_half i box) < open_values box
  unfolding first_half
  first_half_falls = cut_falls box i (first_part i box) rooms first_half-rooms there first_part-inside (omega (arith, first_count))

  -- and in the other half
  pub other_half_falls : open_values (other_half i box) < open_values box
  unfolding other_half
  other_half_falls = cut_falls box i (other_part i box) rooms other_half-rooms there (others-inside (get_or box i 0) mask) (omega (arith, other-count))

  -- every assignment of the box lies in one of the halves
  pub in_a_half : (a : List ℕ) → InBox a box → InBox a (first_half i box) ⊎ InBox a (other_half i box)
  unfolding first_half other_half
  in_a_half a h = go (ℕ_discrete (get_or a i 0) (least i box))
    where
      go : Dec (get_or a i 0 ≡ least i box) → InBox a (first_half i box) ⊎ InBox a (other_half i box)
      go (yes e) = inl (in-box-set a box i (first_part i box) h ((member-single (least i box) (get_or a i 0)).1 (range.0, range.1, e)))
      go (no apart) = inr (in-box-set a box i (other_part i box) h ((member-others (get_or box i 0) (get_or a i 0) mask some).1 (in-box_at a box i h there, apart)))

  -- the halves share out the assignments
  pub half_sizes : box_size (first_half i box) + box_size (other_half i box) ≡ box_size box
  unfolding first_half other_half
  half_sizes = parts_sizes box i (first_part i box) (other_part i box) there (omega (arith, first_count, other-count))

-- ---- the smallest values, and the start

-- the smallest values lie in the box
pub smallest_in-box : (box : List ℕ) → Rooms box → InBox (smallest_of box) box
unfolding smallest_of
smallest_in-box [] h = tt
smallest_in-box (room ∷ box) h = (smallest-member room h.0.0 h.0.1, smallest_in-box box h.1)

-- no assignment of the box has a smaller value anywhere
pub smallest-lowest : (box a : List ℕ) (i : ℕ) → Rooms box → InBox a box → get_or (smallest_of box) i 0 ≤ get_or a i 0
unfolding smallest_of
smallest-lowest [] [] i h g = le_refl 0
smallest-lowest [] (x ∷ a) i h g = absurd g
smallest-lowest (room ∷ box) [] i h g = absurd g
smallest-lowest (room ∷ box) (x ∷ a) zero h g = (smallest-least room x h.0.0 g.0).1
smallest-lowest (room ∷ box) (x ∷ a) (suc i) h g = smallest-lowest box a i h.1 g.1

-- two lists that are the same, or come one before the other, are so with the smallest value of a room and with any of its values in front
pub smallest_before : (room x : ℕ) (a b : List ℕ) → room < 2 ^ 32 → IsMember x room → NotEarlier b a → NotEarlier (x ∷ b) (smallest room ∷ a)
smallest_before room x a b mask t rest = go (ℕ_discrete (smallest room) x)
  where
    go : Dec (smallest room ≡ x) → NotEarlier (x ∷ b) (smallest room ∷ a)
    go (yes e) = ⊎_map (ap₂ ◌∷◌ e) (λ h. inr (e, h)) rest
    go (no apart) = inr (inl (lt_of_le_of_ne (smallest-least room x mask t).1 apart))

-- the smallest values come before every other assignment of the box
pub smallest-first : (box a : List ℕ) → Rooms box → InBox a box → NotEarlier a (smallest_of box)
unfolding smallest_of
smallest-first [] [] h g = inl refl
smallest-first [] (x ∷ a) h g = absurd g
smallest-first (room ∷ box) [] h g = absurd g
smallest-first (room ∷ box) (x ∷ a) h g = smallest_before room x (smallest_of box) a h.0.0 g.0 (smallest-first box a h.1 g.1)

-- the assignments of v positions are those in the box at the start
pub start_assignments : (v n : ℕ) (a : List ℕ) → n ≤ 32 → Assignment v n a ↔ InBox a (start_box v n)
unfolding start_box
start_assignments zero n [] l = (λ h. tt, λ h. (refl, tt))
start_assignments zero n (x ∷ a) l = (λ h. absurd (omega arith), absurd)
start_assignments (suc v) n [] l = (λ h. absurd (omega arith), absurd)
start_assignments (suc v) n (x ∷ a) l = let rest = start_assignments v n a l in (
  λ h. ((member-full n x).1 (l, h.1.0.0, h.1.0.1), rest.0 (omega arith, h.1.1)),
  λ h. let t = (member-full n x).0 h.0 in (ap suc (rest.1 h.1).0, ((t.1, t.2), (rest.1 h.1).1)),
)

-- its rooms are masks, and not empty where there is a value
pub start-rooms : (v n : ℕ) → 1 ≤ n → n ≤ 32 → Rooms (start_box v n)
unfolding start_box
start-rooms zero n h l = tt
start-rooms (suc v) n h l = ((full_below n, count-not_empty (full n) (omega (arith, count_of-full n l))), start-rooms v n h l)

-- it has v rooms
pub start-length : (v n : ℕ) → length (start_box v n) ≡ v
unfolding start_box
start-length v n = length-replicate v (full n)

-- n values at each of v positions make n to the power v assignments
pub start_size : (v n : ℕ) → n ≤ 32 → box_size (start_box v n) ≡ n ^ v
unfolding start_box box_size
start_size zero n l = sym (pow-zero n)
start_size (suc v) n l = ap₂ ◌*◌ (count_of-full n l) (start_size v n l) ∙ sym (pow-succ' n v)

-- and n - 1 values at each that may still go
pub start_spare : (v n : ℕ) → n ≤ 32 → spare_values (start_box v n) ≡ v * (n - 1)
unfolding start_box spare_values
start_spare zero n l = sym (zero-mul (n - 1))
start_spare (suc v) n l = ap₂ (λ (c k : ℕ). (c - 1) + k) (count_of-full n l) (start_spare v n l) ∙ add_comm (n - 1) (v * (n - 1)) ∙ sym (suc-mul v (n - 1))
