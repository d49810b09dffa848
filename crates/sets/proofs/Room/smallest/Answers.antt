-- `sets::Room::smallest` meets its contract: the zeros below the lowest one stand for the values that are missing. Assumes nothing.
use Rattle.std.proofs.Common.{ℕ, ◌≡◌, ◌<◌, ◌^◌, sym, ap, ◌∙◌, subst, arith}
use native.Mathlib.Nat.{add_comm}
use lib.Count.{count_trailing_zeros}
use lib.Dec.{T}
use Rattle.lists.proofs.TestLaws.{true_test}
use Rattle.sets.specs.Sets.{smallest}
use Rattle.sets.proofs.Kept.{smallest-kept}
use Rattle.sets.proofs.Sameness.{empty_test}
use Rattle.sets.proofs.Smallest.{smallest_zeros, smallest_of_empty}
use Rattle.sets.proofs.Room.smallest.Goals as goal

pub returns-then-is_empty : goal.returns-then-is_empty
returns-then-is_empty c =
    let none = (empty_test c.args.self).0 (true_test _ (sym c.is_empty.ensures.result ∙ c.if-is_empty.true)) in
    smallest-kept (omega arith) (sym (ap smallest none ∙ smallest_of_empty))

pub returns : goal.returns
returns c =
    let m : ℕ = c.self.inside.mask in
    let mask = subst (λ (m : ℕ). m < 2 ^ 32) c.self.view_is (omega arith) in
    let some : m ≡ 0 → ⊥ = λ e. subst T (sym c.is_empty.ensures.result ∙ c.if-is_empty.false) ((empty_test c.args.self).1 (sym c.self.view_is ∙ e)) in
    smallest-kept mask (add_comm (count_trailing_zeros 32 m) 1 ∙ sym (smallest_zeros m (omega arith) some) ∙ ap smallest c.self.view_is)
