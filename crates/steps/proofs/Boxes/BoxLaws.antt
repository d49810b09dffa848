-- Laws of boxes: which assignments lie in them, and one box inside another. Assumes nothing.
use mathlib.Core.Path.{◌≡◌, refl, sym, ap, ◌∙◌, subst}
use mathlib.Core.Logic.{◌↔◌}
use mathlib.Core.List.{List, [], ◌∷◌}
use Prim.Native.Nat.{ℕ, zero, suc, ◌^◌, ◌≤◌, ◌<◌, zero-le, suc-le-suc}
use native.Mathlib.Omega.{arith}
use lib.Dec.{T, eqb, eqb→eq, eqb_refl}
use lib.ListN.{length, get_or, set}
use lib.Seq.{set-get_or, ext_get_or}
use Rattle.sets.specs.Sets.{IsMember, common, inside}
use Rattle.sets.proofs.Members.{member-common}
use Rattle.sets.proofs.Sameness.{common_below, common-inside_left, inside_iff, inside_refl, inside_trans, inside_antisymmetric}
use Rattle.lists.proofs.ListLaws.{every_at-place, every_set}
use Rattle.lists.proofs.TestLaws.{both_hold}
use Rattle.steps.specs.Boxes.{InBox, BoxInside, Rooms}
use Rattle.steps.specs.Shrinking.{same_rooms}

-- ---- two lists paired place by place

-- P says of two lists that they are equally long and that R holds at each place
pub record Paired (R : ℕ → ℕ → Type 0) (P : List ℕ → List ℕ → Type 0) : Type 0 where
  pub none : P [] []
  pub longer_left : (x : ℕ) (a : List ℕ) → P (x ∷ a) [] → ⊥
  pub longer_right : (y : ℕ) (b : List ℕ) → P [] (y ∷ b) → ⊥
  pub more : (x y : ℕ) (a b : List ℕ) → P (x ∷ a) (y ∷ b) ↔ (R x y × P a b)

module _ {R : ℕ → ℕ → Type 0} {P : List ℕ → List ℕ → Type 0} (paired : Paired R P) where
  -- paired lists are equally long
  pub paired-length : (a b : List ℕ) → P a b → length a ≡ length b
  paired-length [] [] h = refl
  paired-length [] (y ∷ b) h = absurd (paired.longer_right y b h)
  paired-length (x ∷ a) [] h = absurd (paired.longer_left x a h)
  paired-length (x ∷ a) (y ∷ b) h = ap suc (paired-length a b ((paired.more x y a b).0 h).1)

  -- R holds at each place, and past the end where it holds of 0 and 0
  pub paired_at : (a b : List ℕ) (i : ℕ) → P a b → (length b ≤ i → R 0 0) → R (get_or a i 0) (get_or b i 0)
  paired_at [] [] i h past = past zero-le
  paired_at [] (y ∷ b) i h past = absurd (paired.longer_right y b h)
  paired_at (x ∷ a) [] i h past = absurd (paired.longer_left x a h)
  paired_at (x ∷ a) (y ∷ b) zero h past = ((paired.more x y a b).0 h).0
  paired_at (x ∷ a) (y ∷ b) (suc i) h past = paired_at a b i ((paired.more x y a b).0 h).1 (λ l. past (suc-le-suc l))

  -- lists equally long with R at each place are paired
  pub paired_of : (a b : List ℕ) → length a ≡ length b → ((i : ℕ) → i < length b → R (get_or a i 0) (get_or b i 0)) → P a b
  paired_of [] [] e h = paired.none
  paired_of [] (y ∷ b) e h = absurd (omega arith)
  paired_of (x ∷ a) [] e h = absurd (omega arith)
  paired_of (x ∷ a) (y ∷ b) e h =
      (paired.more x y a b).1 (h 0 (suc-le-suc zero-le), paired_of a b (omega arith) (λ i l. h (suc i) (suc-le-suc l)))

  -- a list is paired with itself where R holds of each number with itself
  pub paired_refl : ((x : ℕ) → R x x) → (a : List ℕ) → P a a
  paired_refl same a = paired_of a a refl (λ i l. same (get_or a i 0))

  -- paired lists stay paired where both get elements with R at the same place
  pub paired-set : (a b : List ℕ) (i x y : ℕ) → P a b → R x y → P (set a i x) (set b i y)
  paired-set [] [] i x y h r = h
  paired-set [] (t ∷ b) i x y h r = absurd (paired.longer_right t b h)
  paired-set (s ∷ a) [] i x y h r = absurd (paired.longer_left s a h)
  paired-set (s ∷ a) (t ∷ b) zero x y h r = (paired.more x y a b).1 (r, ((paired.more s t a b).0 h).1)
  paired-set (s ∷ a) (t ∷ b) (suc i) x y h r =
      let parts = (paired.more s t a b).0 h in
      (paired.more s t (set a i x) (set b i y)).1 (parts.0, paired-set a b i x y parts.1 r)

-- ---- assignments in a box

in-box_paired : Paired (λ x room. IsMember x room) InBox
in-box_paired = record { none = tt; longer_left = λ x a h. h; longer_right = λ y b h. h; more = λ x y a b. (λ h. h, λ h. h) }

-- an assignment has a value for each room
pub in-box-length : (a box : List ℕ) → InBox a box → length a ≡ length box
in-box-length = paired-length in-box_paired

-- each value lies in its room
pub in-box_at : (a box : List ℕ) (i : ℕ) → InBox a box → i < length box → IsMember (get_or a i 0) (get_or box i 0)
in-box_at a box i h l = paired_at in-box_paired a box i h (λ past. absurd (omega arith))

-- an assignment with each value in its room lies in the box
pub in-box_of : (a box : List ℕ) → length a ≡ length box → ((i : ℕ) → i < length box → IsMember (get_or a i 0) (get_or box i 0)) → InBox a box
in-box_of = paired_of in-box_paired

-- an assignment stays in the box where its value lies in the new room
pub in-box-set : (a box : List ℕ) (i room : ℕ) → InBox a box → IsMember (get_or a i 0) room → InBox a (set box i room)
in-box-set a box i room h t =
    subst (λ (c : List ℕ). InBox c (set box i room)) (set-get_or a i 0) (paired-set in-box_paired a box i (get_or a i 0) room h t)

-- ---- a box inside another

box-inside_paired : Paired (λ r s. T (inside r s)) BoxInside
box-inside_paired = record { none = tt; longer_left = λ x a h. h; longer_right = λ y b h. h; more = λ x y a b. (λ h. h, λ h. h) }

-- a box inside another has as many rooms
pub box-inside-length : (b c : List ℕ) → BoxInside b c → length b ≡ length c
box-inside-length = paired-length box-inside_paired

-- what holds of a box by its length holds of those inside
pub same_length : (P : ℕ → Type 0) (b c : List ℕ) → BoxInside b c → P (length c) → P (length b)
same_length P b c i = subst P (sym (box-inside-length b c i))

-- each room lies inside the other box's
pub box-inside_at : (b c : List ℕ) (i : ℕ) → BoxInside b c → T (inside (get_or b i 0) (get_or c i 0))
box-inside_at b c i h = paired_at box-inside_paired b c i h (λ past. inside_refl 0)

-- a box with each room inside the other's lies inside it
pub box-inside_of : (b c : List ℕ) → length b ≡ length c → ((i : ℕ) → i < length c → T (inside (get_or b i 0) (get_or c i 0))) → BoxInside b c
box-inside_of = paired_of box-inside_paired

-- a box lies inside itself
pub box-inside_refl : (b : List ℕ) → BoxInside b b
box-inside_refl = paired_refl box-inside_paired inside_refl

-- a box inside one that is inside a third lies inside the third
pub box-inside_trans : (a b c : List ℕ) → BoxInside a b → BoxInside b c → BoxInside a c
box-inside_trans a b c h g =
    box-inside_of a c (box-inside-length a b h ∙ box-inside-length b c g)
    (λ i l. inside_trans (get_or a i 0) (get_or b i 0) (get_or c i 0) (box-inside_at a b i h) (box-inside_at b c i g))

-- two boxes inside each other are the same
pub box-inside_antisymmetric : (b c : List ℕ) → BoxInside b c → BoxInside c b → b ≡ c
box-inside_antisymmetric b c h g =
    ext_get_or 0 b c (box-inside-length b c h)
    (λ i l. inside_antisymmetric (get_or b i 0) (get_or c i 0) (box-inside_at b c i h) (box-inside_at c b i g))

-- an assignment in a box lies in every box around it
pub in-box-inside : (a b c : List ℕ) → InBox a b → BoxInside b c → InBox a c
in-box-inside a b c h g =
    let e : length b ≡ length c = box-inside-length b c g in
    in-box_of a c (in-box-length a b h ∙ e)
    (λ i l. (inside_iff (get_or b i 0) (get_or c i 0)).0 (box-inside_at b c i g) (get_or a i 0) (in-box_at a b i h (omega arith)))

-- cutting the same room of two boxes keeps the one inside the other
pub set_both-inside : (b c : List ℕ) (i r s : ℕ) → BoxInside b c → T (inside r s) → BoxInside (set b i r) (set c i s)
set_both-inside = paired-set box-inside_paired

-- a room that is cut lies inside the box
pub set-inside : (box : List ℕ) (i room : ℕ) → T (inside room (get_or box i 0)) → BoxInside (set box i room) box
set-inside box i room t =
    subst (λ (c : List ℕ). BoxInside (set box i room) c) (set-get_or box i 0) (set_both-inside box box i room (get_or box i 0) (box-inside_refl box) t)

-- ---- rooms that are masks and not empty

-- each room is a mask and not empty
pub rooms_at : (box : List ℕ) (i : ℕ) → Rooms box → i < length box → (get_or box i 0 < 2 ^ 32) × (get_or box i 0 ≡ 0 → ⊥)
rooms_at = every_at-place (λ room. (room < 2 ^ 32) × (room ≡ 0 → ⊥))

-- every room is a mask, as is the empty one that is read past the last
pub room_below : (box : List ℕ) (i : ℕ) → Rooms box → get_or box i 0 < 2 ^ 32
room_below [] i rooms = omega arith
room_below (room ∷ box) zero rooms = rooms.0.0
room_below (room ∷ box) (suc i) rooms = room_below box i rooms.1

-- rooms stay masks and not empty where the new one is
pub rooms-set : (box : List ℕ) (i room : ℕ) → Rooms box → room < 2 ^ 32 → (room ≡ 0 → ⊥) → Rooms (set box i room)
rooms-set box i room h l n = every_set (λ r. (r < 2 ^ 32) × (r ≡ 0 → ⊥)) box i room h (l, n)

-- ---- a room cut down to what it shares with a set

-- an assignment with its value in the set stays in the box
pub shared_in-box : (a box : List ℕ) (i u : ℕ) → i < length box → InBox a box → IsMember (get_or a i 0) u → InBox a (set box i (common (get_or box i 0) u))
shared_in-box a box i u l h t = in-box-set a box i (common (get_or box i 0) u) h ((member-common (get_or a i 0) (get_or box i 0) u).1 (in-box_at a box i h l, t))

-- the box becomes smaller
pub shared-inside : (box : List ℕ) (i u : ℕ) → BoxInside (set box i (common (get_or box i 0) u)) box
shared-inside box i u = set-inside box i (common (get_or box i 0) u) (common-inside_left (get_or box i 0) u)

-- no room becomes empty where they share a value
pub shared-rooms : (box : List ℕ) (i u : ℕ) → i < length box → Rooms box → (common (get_or box i 0) u ≡ 0 → ⊥) → Rooms (set box i (common (get_or box i 0) u))
shared-rooms box i u l h some = rooms-set box i (common (get_or box i 0) u) h (common_below (get_or box i 0) u (rooms_at box i h l).0) some

-- a box inside another stays inside it where both are cut down
pub shared_both-inside : (b c : List ℕ) (i u : ℕ) → BoxInside b c → BoxInside (set b i (common (get_or b i 0) u)) (set c i (common (get_or c i 0) u))
shared_both-inside b c i u h = set_both-inside b c i (common (get_or b i 0) u) (common (get_or c i 0) u) h ((inside_iff (common (get_or b i 0) u) (common (get_or c i 0) u)).1 kept)
  where
    kept : (x : ℕ) → IsMember x (common (get_or b i 0) u) → IsMember x (common (get_or c i 0) u)
    kept x t =
        let both = (member-common x (get_or b i 0) u).0 t in
        (member-common x (get_or c i 0) u).1 ((inside_iff (get_or b i 0) (get_or c i 0)).0 (box-inside_at b c i h) x both.0, both.1)

-- ---- the same rooms

same_rooms_paired : Paired (λ r s. T (eqb r s)) (λ b c. T (same_rooms b c))
unfolding same_rooms
same_rooms_paired = record { none = tt; longer_left = λ x a h. h; longer_right = λ y b h. h; more = λ x y a b. both_hold (eqb x y) (same_rooms a b) }

-- two boxes are the same exactly if the test says so
pub same_rooms_iff : (b c : List ℕ) → T (same_rooms b c) ↔ (b ≡ c)
same_rooms_iff b c = (forth, λ e. subst (λ (d : List ℕ). T (same_rooms b d)) e (paired_refl same_rooms_paired eqb_refl b))
  where
    forth : T (same_rooms b c) → b ≡ c
    forth t =
        let e : length b ≡ length c = paired-length same_rooms_paired b c t in
        ext_get_or 0 b c e (λ i l. eqb→eq (get_or b i 0) (get_or c i 0) (paired_at same_rooms_paired b c i t (λ past. eqb_refl 0)))
