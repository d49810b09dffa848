-- Laws of the smallest values of the first rooms of an array, written room by room. Assumes nothing.
use mathlib.Core.Path.{◌≡◌, sym, ap, ◌∙◌}
use mathlib.Core.List.{List, [], ◌∷◌, ◌++◌, map, map-append}
use Prim.Native.Nat.{ℕ, ◌+◌, ◌<◌}
use native.Mathlib.Numerals.{add-one}
use native.Mathlib.Omega.{arith}
use lib.ListN.{length, get_or, take, set, length-map}
use lib.Seq.{length-take-le, take-suc}
use Rattle.lists.specs.Buffer.{over}
use Rattle.lists.proofs.BufferLaws.{over_store}
use Rattle.sets.specs.Sets.{smallest}
use Rattle.sets.proofs.Smallest.{smallest_most}
use Rattle.steps.specs.Boxes.{smallest_of}

-- the smallest value of a room fits into a byte
pub smallest_byte : (room : ℕ) → smallest room < 256
smallest_byte room = omega (arith, smallest_most room)

-- the smallest values of one room more
smallest_more : (i : ℕ) (rooms : List ℕ) → i < length rooms → map smallest (take (i + 1) rooms) ≡ map smallest (take i rooms) ++ smallest (get_or rooms i 0) ∷ []
smallest_more i rooms h = rw (add-one, take-suc rooms i 0, map-append)

-- the next room's smallest value is written behind the others
pub smallest_on : (i : ℕ) (rooms buffer : List ℕ) → i < length rooms → i < length buffer
    → set (over (smallest_of (take i rooms)) buffer) i (smallest (get_or rooms i 0)) ≡ over (smallest_of (take (i + 1) rooms)) buffer
unfolding smallest_of
smallest_on i rooms buffer h l =
    let so_far = map smallest (take i rooms) in
    let long : length so_far ≡ i = length-map (take i rooms) smallest ∙ length-take-le i rooms (omega arith) in
    ap (λ (k : ℕ). set (over so_far buffer) k (smallest (get_or rooms i 0))) (sym long) ∙ over_store so_far buffer (smallest (get_or rooms i 0)) (omega arith)
    ∙ ap (λ (front : List ℕ). over front buffer) (sym (smallest_more i rooms h))
