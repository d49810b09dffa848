-- The values that rooms may still lose are the sum of those of each, and with 64 rooms at most a number of 64 bits. Assumes nothing.
use mathlib.Core.Path.{◌≡◌, refl}
use mathlib.Core.List.{List}
use Prim.Native.Nat.{ℕ, ◌-◌}
use Rattle.std.specs.List.{sum_by}
use Rattle.std.proofs.lemmas.List.Recursion.{is_sum_by}
use Rattle.sets.specs.Sets.{count}
use Rattle.steps.specs.Boxes.{spare_values}

-- room by room
pub spare_sum : (box : List ℕ) → spare_values box ≡ sum_by (λ room. count room - 1) box
unfolding spare_values
spare_sum = is_sum_by spare_values (λ room. count room - 1) refl (λ _ _. refl)
