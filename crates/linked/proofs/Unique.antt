-- Any two later contents of the cells and of the buffer that the promise of `oarloom_plan` allows are equal. The functions of `src/panel.rt`
-- promise the records of `sets`, and `oarloom_rounds_most` that of `planner`, whose `Unique` say the same of their results. Assumes nothing.
use mathlib.Core.Path.{◌≡◌, ap}
use mathlib.Core.List.{List}
use Prim.Native.Nat.{ℕ}
use Rattle.searching.specs.declared.reply.Reply.{Reply}
use Rattle.planner.proofs.Unique.{plan_unique}
use Rattle.linked.specs.Linked.{Linked}

-- each cell holds the same number, and the buffers are the same
pub cells_unique : (input before after after' : List ℕ) (allowed number place splits dead_ends rounds number' place' splits' deadEnds' rounds' : ℕ)
    → Linked input before after allowed number place splits dead_ends rounds
    → Linked input before after' allowed number' place' splits' deadEnds' rounds'
    → (number ≡ number') × (place ≡ place') × (splits ≡ splits') × (dead_ends ≡ deadEnds') × (rounds ≡ rounds') × (after ≡ after')
cells_unique input before after after' allowed number place splits dead_ends rounds number' place' splits' deadEnds' rounds' p q =
    let same = plan_unique input before after after' allowed _ _ p q in (
      ap (λ (r : Reply). r.number) same.0,
      ap (λ (r : Reply). r.place) same.0,
      ap (λ (r : Reply). r.splits) same.0,
      ap (λ (r : Reply). r.dead_ends) same.0,
      ap (λ (r : Reply). r.rounds) same.0,
      same.1,
    )
