-- What rules that are added behind a file mean: its plans are those plans that meet them too, `added_plans`, and the first of those is not earlier, `added-first`. No law here
-- looks at the kind of a rule. Assumes nothing.
use mathlib.Core.List.{List}
use mathlib.Core.Logic.{◌↔◌}
use Prim.Native.Nat.{ℕ}
use Rattle.lists.proofs.ListLaws.{every-over-append}
use Rattle.rules.specs.Rules.{Rule, File}
use Rattle.rules.specs.Meaning.{Meets, MeetsAll, NotEarlier, Plan, FirstPlan}
use Rattle.rules.specs.Added.{added}

module _ (file : File) (more : List Rule) where
  -- the plans of the longer file are the plans of the file that meet the rules added
  pub added_plans : (a : List ℕ) → Plan (added file more) a ↔ (Plan file a × MeetsAll a more)
  unfolding added
  added_plans a =
      let both = every-over-append (Meets a) file.rules more in
      (λ p. let parts = both.0 p.1 in ((p.0, parts.0), parts.1), λ p. (p.0.0, both.1 (p.0.1, p.1)))

  -- so its first plan, where both have one, is not earlier than that of the file
  pub added-first : (a b : List ℕ) → FirstPlan file a → FirstPlan (added file more) b → NotEarlier b a
  added-first a b first later = first.1 b ((added_plans b).0 later.0).0
