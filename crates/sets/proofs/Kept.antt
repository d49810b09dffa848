-- Each promise of `specs/Promise.antt` is kept by the number that its definition gives. The functions' proofs cite these. Assumes nothing.
use mathlib.Core.Path.{◌≡◌, sym, ap, ◌∙◌, subst}
use mathlib.Core.Logic.{◌↔◌}
use mathlib.Core.Bool.{Bool}
use Prim.Native.Nat.{ℕ, ◌^◌, ◌<◌}
use lib.Bits.{or_comm, and_comm}
use lib.Dec.{T}
use Rattle.sets.specs.Sets.{IsMember, full, single, union, common, inside, is_empty, meets, complement, count, smallest, others}
use Rattle.sets.specs.Promise.{Full, Single, Union, Common, Inside, Empty, Meets, Complement, Count, Smallest, Others}
use Rattle.sets.proofs.Members.{member_empty, member-full, member-single, member_union, member-common, member-complement}
use Rattle.sets.proofs.Sameness.{common_below, inside_iff, no-member_empty, empty_test}
use Rattle.sets.proofs.Counting.{count-how_many}
use Rattle.sets.proofs.Outside.{meets_shared}
use Rattle.sets.proofs.Smallest.{smallest-least, smallest_of_empty, others_smaller}

-- what is known of the members of a set is known of an equal set
members_of : {P : ℕ → Type 0} {r s : ℕ} → r ≡ s → ((x : ℕ) → IsMember x s ↔ P x) → (x : ℕ) → IsMember x r ↔ P x
members_of {P} e known x = subst (λ (m : ℕ). IsMember x m ↔ P x) (sym e) (known x)

pub full-kept : {n r : ℕ} → r ≡ full n → Full n r
full-kept {n} e = record { result = e; members = members_of e (member-full n) }

pub single-kept : {x r : ℕ} → r ≡ single x → Single x r
single-kept {x} e = record { result = e; members = members_of e (member-single x) }

pub union-kept : {a b r : ℕ} → r ≡ union a b → Union a b r
union-kept {a} {b} e = record { result = e; members = members_of e (λ x. member_union x a b) }

pub common-kept : {a b r : ℕ} → r ≡ common a b → Common a b r
common-kept {a} {b} e = record { result = e; members = members_of e (λ x. member-common x a b) }

-- what has the values of b or of a has those of a or of b
pub union_symmetric : {a b r : ℕ} → Union b a r → Union a b r
unfolding union
union_symmetric {a} {b} u = union-kept (u.result ∙ or_comm b a)

-- what has the values of both b and a has those of both a and b
pub common_symmetric : {a b r : ℕ} → Common b a r → Common a b r
unfolding common
common_symmetric {a} {b} u = common-kept (u.result ∙ and_comm b a)

pub inside-kept : {a b : ℕ} {r : Bool} → r ≡ inside a b → Inside a b r
inside-kept {a} {b} e = record { result = e; members = subst (λ t. T t ↔ ((x : ℕ) → IsMember x a → IsMember x b)) (sym e) (inside_iff a b) }

pub empty-kept : {m : ℕ} {r : Bool} → r ≡ is_empty m → Empty m r
empty-kept {m} e = record { result = e; members = subst (λ t. T t ↔ ((x : ℕ) → IsMember x m → ⊥)) (sym e) (none, λ h. (empty_test m).1 (no-member_empty m h)) }
  where
    none : T (is_empty m) → (x : ℕ) → IsMember x m → ⊥
    none t x u = member_empty x (subst (IsMember x) ((empty_test m).0 t) u)

pub meets-kept : {a b : ℕ} {r : Bool} → a < 2 ^ 32 → r ≡ meets a b → Meets a b r
meets-kept {a} {b} h e = record { result = e; members = subst (λ t. T t ↔ ((x : ℕ) × IsMember x a × IsMember x b)) (sym e) (meets_shared a b (common_below a b h)) }

pub complement-kept : {n m r : ℕ} → r ≡ complement n m → Complement n m r
complement-kept {n} {m} e = record { result = e; members = members_of e (member-complement n m) }

pub count_kept : {m r : ℕ} → m < 2 ^ 32 → r ≡ count m → Count m r
count_kept {m} h e = record { result = e; members = e ∙ count-how_many m h }

pub smallest-kept : {m r : ℕ} → m < 2 ^ 32 → r ≡ smallest m → Smallest m r
smallest-kept {m} {r} h e = record {
  result = e;
  least = λ x t. subst (λ (s : ℕ). IsMember s m × (Prim.Native.Nat.◌≤◌ s x)) (sym e) (smallest-least m x h t);
  none = λ none. e ∙ ap smallest (no-member_empty m none) ∙ smallest_of_empty;
}

pub others-kept : {m r : ℕ} → m < 2 ^ 32 → r ≡ others m → Others m r
others-kept {m} h e = record { result = e; members = members_of e (λ x. others_smaller m x h) }
