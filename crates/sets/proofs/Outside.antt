-- Sets that meet, `meets_shared`, and the values of a room outside a set: what is left, `beside_some`, and that nothing is lost where they do not meet, `beside_apart`. Assumes nothing.
use mathlib.Core.Path.{◌≡◌, sym, subst}
use mathlib.Core.Logic.{◌↔◌, ⊎_elim}
use Prim.Native.Nat.{ℕ, ◌^◌, ◌<◌}
use lib.Dec.{T, T_not, not_T}
use Rattle.lists.proofs.TestLaws.{test_cases}
use Rattle.sets.specs.Sets.{is_member, IsMember, common, is_empty, inside, meets, smallest, beside}
use Rattle.sets.proofs.Members.{member_empty, member-common}
use Rattle.sets.proofs.Sameness.{common_below, member_extensional, empty_test, inside_iff}
use Rattle.sets.proofs.Counting.{beside_below, member-beside}
use Rattle.sets.proofs.Smallest.{smallest-member}

-- ---- sets that meet

-- they meet where they share a value
pub meets_of_shared : (a b x : ℕ) → IsMember x a → IsMember x b → T (meets a b)
meets_of_shared a b x t u = not_T (is_empty (common a b)) (λ e. member_empty x (subst (IsMember x) ((empty_test (common a b)).0 e) ((member-common x a b).1 (t, u))))

-- and exactly there
pub meets_shared : (a b : ℕ) → common a b < 2 ^ 32 → T (meets a b) ↔ ((x : ℕ) × IsMember x a × IsMember x b)
meets_shared a b mask = (forth, λ h. meets_of_shared a b h.0 h.1 h.2)
  where
    both : ℕ
    both = common a b

    forth : T (meets a b) → (x : ℕ) × IsMember x a × IsMember x b
    forth t =
        let least = (member-common (smallest both) a b).0 (smallest-member both mask (λ e. T_not (is_empty both) t ((empty_test both).1 e))) in
        (smallest both, least.0, least.1)

-- so a room that meets a set shares a value with it
pub shared_of-meets : (a b : ℕ) → a < 2 ^ 32 → T (meets a b) → (x : ℕ) × IsMember x a × IsMember x b
shared_of-meets a b mask = (meets_shared a b (common_below a b mask)).0

-- a room that is not empty and lies inside a set meets it
pub inside-meets : (a b : ℕ) → a < 2 ^ 32 → (a ≡ 0 → ⊥) → T (inside a b) → T (meets a b)
inside-meets a b mask some i = let t = smallest-member a mask some in meets_of_shared a b (smallest a) t ((inside_iff a b).0 i (smallest a) t)

-- what meets a part of a set meets the set
pub meets_larger : (a b m : ℕ) → a < 2 ^ 32 → T (inside a b) → T (meets a m) → T (meets b m)
meets_larger a b m mask i t = let found = shared_of-meets a m mask t in meets_of_shared b m found.0 ((inside_iff a b).0 i found.0 found.1) found.2

-- ---- the values of a room that are outside a set

module _ (m room : ℕ) (mask : room < 2 ^ 32) where
  -- they are values of the room
  pub beside-inside : T (inside (beside m room) room)
  beside-inside = (inside_iff (beside m room) room).1 (λ x t. ((member-beside m room x mask).0 t).0)

  -- there are some where it does not lie inside the set
  pub beside_some : (T (inside room m) → ⊥) → beside m room ≡ 0 → ⊥
  beside_some out none = out ((inside_iff room m).1 within)
    where
      within : (x : ℕ) → IsMember x room → IsMember x m
      within x t = ⊎_elim (λ u. u) (λ u. absurd (member_empty x (subst (IsMember x) none ((member-beside m room x mask).1 (t, u))))) (test_cases (is_member x m))

  -- where they do not meet, all values are outside
  pub beside_apart : (T (meets room m) → ⊥) → beside m room ≡ room
  beside_apart apart =
      member_extensional (beside m room) room (λ x. (λ t. ((member-beside m room x mask).0 t).0, λ t. (member-beside m room x mask).1 (t, λ u. apart (meets_of_shared room m x t u))))

  -- so they do not where all are
  pub apart_of-beside : beside m room ≡ room → T (meets room m) → ⊥
  apart_of-beside same t =
      let found = shared_of-meets room m mask t in
      ((member-beside m room found.0 mask).0 (subst (IsMember found.0) (sym same) found.1)).1 found.2

  -- taken twice they are the same
  pub beside_twice : beside m (beside m room) ≡ beside m room
  beside_twice =
      member_extensional (beside m (beside m room)) (beside m room)
      (λ x. (λ t. ((member-beside m (beside m room) x (beside_below m room mask)).0 t).0, λ t. (member-beside m (beside m room) x (beside_below m room mask)).1 (t, ((member-beside m room x mask).0 t).1)))

-- of a smaller room they are values outside of the larger one
pub beside_both : (m r s : ℕ) → r < 2 ^ 32 → s < 2 ^ 32 → T (inside r s) → T (inside (beside m r) (beside m s))
beside_both m r s hr hs i =
    (inside_iff (beside m r) (beside m s)).1
    (λ x t. let both = (member-beside m r x hr).0 t in (member-beside m s x hs).1 ((inside_iff r s).0 i x both.0, both.1))
