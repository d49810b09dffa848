-- `rules::field::set_at` meets its contract: four bytes, the high one first. Assumes nothing.
use Rattle.std.proofs.Common.{◌≡◌, ℕ, ◌+◌, List, [], ◌∷◌, arith, get_or}
use Rattle.std.specs.Int.{from_be_bytes, w32}
use Rattle.rules.specs.Reading.{set_at}
use Rattle.rules.proofs.field.set_at.Goals as goal

four : (bytes : List ℕ) (at : ℕ)
    → from_be_bytes w32 (get_or bytes at 0 ∷ get_or bytes (at + 1) 0 ∷ get_or bytes (at + 2) 0 ∷ get_or bytes (at + 3) 0 ∷ []) ≡ set_at bytes at
unfolding set_at
four bytes at = omega arith

pub returns : goal.returns
returns c = omega (arith, four c.args.bytes.now c.args.at)
