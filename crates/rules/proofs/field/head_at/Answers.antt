-- `rules::field::head_at` meets its contract: two bytes, the high one first. Assumes nothing.
use Rattle.std.proofs.Common.{◌≡◌, sym, ap, ◌∙◌, ℕ, ◌+◌, List, [], ◌∷◌, arith, get_or}
use Rattle.std.specs.Int.{from_be_bytes, w16}
use Rattle.rules.specs.Reading.{length_at}
use Rattle.rules.proofs.Reading.ByteLaws.{head-drop}
use Rattle.rules.proofs.field.head_at.Goals as goal

two : (bytes : List ℕ) (at : ℕ) → from_be_bytes w16 (get_or bytes (at + 1) 0 ∷ get_or bytes (at + 2) 0 ∷ []) ≡ length_at bytes (at + 1)
unfolding length_at
two bytes at =
    let next : get_or bytes (at + 1 + 1) 0 ≡ get_or bytes (at + 2) 0 = ap (λ (i : ℕ). get_or bytes i 0) (omega arith) in
    omega arith

pub returns : goal.returns
returns c =
    let a = c.args in
    let length = c.from-length.ensures ∙ c.from_be_bytes.ensures ∙ two a.bytes.now a.at in
    ((λ i. record { tag = get_or a.bytes.now a.at 0; length = length i }) ∙ sym (head-drop a.bytes.now a.at), omega (arith, c.from-length.ensures, c.from_be_bytes.type_inv))
