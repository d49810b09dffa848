-- `choosing::choose::first_wide` meets its contract: the place of the first room that passes the test is the lowest index that does. Assumes nothing.
use mathlib.Core.Bool.{cond}
use lib.Dec.{T, ltb}
use Rattle.std.proofs.Common.{rules, tests, refl, ℕ, Bool, true, false, Option, Some, None, List, ◌≡◌, ap, ◌∙◌, length, get_or, leb}
use Rattle.std.specs.Bool.{then_some}
use Rattle.std.specs.List.{position_or_len}
use Rattle.std.proofs.lemmas.Iterator.{YieldsList-from_slice}
use Rattle.std.proofs.lemmas.Iterator.Search.{position_from_yields_List}
use Rattle.std.proofs.lemmas.List.Sums.{position_or_len_is}
use Rattle.lists.proofs.LowestLaws.{lowest-most, lowest_passes, lowest_before}
use Rattle.lists.proofs.TestLaws.{test_true}
use Rattle.sets.specs.Sets.{count}
use Rattle.steps.specs.Boxes.{wide}
use Rattle.choosing.specs.FirstWide.{first_wide}
use Rattle.choosing.proofs.choose.first_wide.Goals as goal

-- whether a room has two or more values
abbrev two : ℕ → Bool
two room = leb 2 (count room)

failed : (b : Bool) → (T b → ⊥) → b ≡ false
failed true h = absurd (h tt)
failed false h = refl

first : (box : List ℕ) → position_or_len two box ≡ first_wide box
first box =
    let n = length box in
    position_or_len_is two box (first_wide box) 0 (lowest-most (wide box) n)
    (λ k h. failed (two (get_or box k 0)) (lowest_before (wide box) n k h)) (λ h. test_true _ (lowest_passes (wide box) n h))

answered : (b : Bool) (i : ℕ) → ◌≡◌ {A = Option ℕ} (cond b (Some i) None) (then_some b i)
answered true i = refl
answered false i = refl

pub returns : goal.returns
returns c =
    let box = c.args.rooms.now.box in
    position_from_yields_List two _ _ c.position.result c.position.ensures.ran (YieldsList-from_slice c.as_slice.result.now cc) (λ x b q k. search (rules, tests))
    ∙ ap (λ (rooms : List ℕ). cond (ltb (position_or_len two rooms) (length rooms)) (Some (position_or_len two rooms)) None) c.as_slice.ensures
    ∙ ap (λ (i : ℕ). cond (ltb i (length box)) (Some i) None) (first box) ∙ answered (ltb (first_wide box) (length box)) (first_wide box)
