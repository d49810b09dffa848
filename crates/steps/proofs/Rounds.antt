-- Request R-10 of document 02, of the search of a file that is within 01's limits: the rounds of a reply are those of the first box (`planned-rounds`), and at most the sum
-- over positions of starting size less one, plus one (`planned-most`), which is at most v * (n - 1) + 1 (`most-by_header`) and just that without a starting set (`most_plain`). Assumes nothing.
use mathlib.Core.Path.{◌≡◌, ap, ◌∙◌}
use Prim.Native.Nat.{ℕ, ◌+◌, ◌*◌, ◌-◌, ◌≤◌}
use native.Mathlib.Omega.{arith}
use Rattle.lists.specs.Lists.{Every}
use Rattle.rules.specs.Rules.{File}
use Rattle.rules.specs.Writing.{fields_of, Within}
use Rattle.steps.specs.Boxes.{start_box}
use Rattle.steps.specs.Rounds.{TakesRounds, rounds_most}
use Rattle.steps.specs.Start.{start_of}
use Rattle.steps.specs.Table.{planned}
use Rattle.steps.proofs.Boxes.BoxSizes.{start-rooms, start_spare, spare-inside}
use Rattle.steps.proofs.Demands.{start}
use Rattle.steps.proofs.Looks.RoundLaws.{rounds_taken, rounds-least, rounds-bound}
use Rattle.steps.proofs.Start.StartLaws.{NoStart, start_filled, start-within, start_plain}

module _ (file : File) (within : Within file) where
  -- whatever is allowed, the rounds are those that shrinking the first box takes
  pub planned-rounds : (allowed : ℕ) → TakesRounds (fields_of file) (start_of file) (planned file allowed).rounds
  unfolding planned
  planned-rounds allowed = rounds_taken (fields_of file) (start_of file) (start file within).rooms

  -- one at least
  pub planned-least : (allowed : ℕ) → 1 ≤ (planned file allowed).rounds
  unfolding planned
  planned-least allowed = rounds-least (fields_of file) (start_of file) (start file within).rooms

  -- at most as many as the starting sets say
  pub planned-most : (allowed : ℕ) → (planned file allowed).rounds ≤ rounds_most (start_of file)
  unfolding planned
  planned-most allowed = rounds-bound (fields_of file) (start_of file) (start file within).rooms

  -- and that is no more than the header says
  pub most-by_header : rounds_most (start_of file) ≤ file.v * (file.n - 1) + 1
  unfolding rounds_most
  most-by_header =
      let whole = start-rooms file.v file.n within.values.0 within.values.1 in
      omega (arith, spare-inside (start_of file) (start_box file.v file.n) (start_filled file within) whole (start-within file within), start_spare file.v file.n within.values.1)

  -- just that where the file has no starting set
  pub most_plain : Every NoStart file.rules → rounds_most (start_of file) ≡ file.v * (file.n - 1) + 1
  unfolding rounds_most
  most_plain plain = ap rounds_most (start_plain file plain) ∙ ap (λ (k : ℕ). k + 1) (start_spare file.v file.n within.values.1)
