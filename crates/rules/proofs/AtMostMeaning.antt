-- What "at most k" says where k is small or large: none, `at_most-none`; no two, `at_most_one`; and that it is met whatever the values are where there are no more than k positions, `at_most-enough`, or no values, `at_most_empty`. Assumes nothing.
use mathlib.Core.List.{List}
use mathlib.Core.Logic.{◌↔◌}
use Prim.Native.Nat.{ℕ, ◌≤◌, ◌<◌}
use native.Mathlib.Omega.{arith}
use lib.ListN.{length, get_or}
use Rattle.sets.specs.Sets.{is_member, IsMember}
use Rattle.sets.proofs.Members.{member_empty}
use Rattle.lists.specs.Lists.{Every}
use Rattle.lists.proofs.ListLaws.{every_of_listed}
use Rattle.lists.proofs.PassingLaws.{passing-most, passing_zero, passing-at_most_one}
use Rattle.rules.specs.Rules.{at_most}
use Rattle.rules.specs.Meaning.{value_at, Meets}

-- the position takes a value outside the set
abbrev Outside : List ℕ → ℕ → ℕ → Type 0
Outside a m p = IsMember (value_at a p) m → ⊥

-- at most none: every named position takes a value outside the set
pub at_most-none : (a : List ℕ) (m : ℕ) (ps : List ℕ) → Meets a (at_most 0 m ps) ↔ Every (Outside a m) ps
at_most-none a m ps = passing_zero (λ p. is_member (value_at a p) m) ps

-- at most one: of every two named positions, one in front of the other, one takes a value outside; these are the clauses of two atoms that say the same
pub at_most_one : (a : List ℕ) (m : ℕ) (ps : List ℕ) → Meets a (at_most 1 m ps) ↔ ((i j : ℕ) → i < j → j < length ps → IsMember (value_at a (get_or ps i 0)) m → Outside a m (get_or ps j 0))
at_most_one a m ps = passing-at_most_one (λ p. is_member (value_at a p) m) ps

-- no more positions than k: always met
pub at_most-enough : (a : List ℕ) (k m : ℕ) (ps : List ℕ) → length ps ≤ k → Meets a (at_most k m ps)
at_most-enough a k m ps h = omega (arith, passing-most (λ p. is_member (value_at a p) m) ps)

-- the empty set: always met
pub at_most_empty : (a : List ℕ) (k : ℕ) (ps : List ℕ) → Meets a (at_most k 0 ps)
at_most_empty a k ps =
    let none = (passing_zero (λ p. is_member (value_at a p) 0) ps).1 (every_of_listed (Outside a 0) ps (λ p t. member_empty (value_at a p))) in
    omega arith
