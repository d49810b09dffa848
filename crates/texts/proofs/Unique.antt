-- Any two texts that a promise of `src/` allows are equal, for each public function. Assumes nothing.
use mathlib.Core.Path.{◌≡◌}
use mathlib.Core.List.{List}
use Prim.Native.Nat.{ℕ}
use Rattle.sets.proofs.Unique.{one-result}
use Rattle.texts.specs.declared.Text.{Text}
use Rattle.texts.specs.Promise.{New, Grows}

-- `new`
pub new_unique : {r s : Text} → New r → New s → r ≡ s
new_unique p q = one-result p q

-- `byte`, `word`, `number`, `behind`, `all_behind`, `spaced` and `values`: one result for the text and the bytes that each adds
pub grows_unique : (text : Text) (more : List ℕ) {r s : Text} → Grows text more r → Grows text more s → r ≡ s
grows_unique text more p q = one-result p q
