-- Laws of a content that is cut from more bytes: where its length fits its kind, the rule is that of the first so many bytes, `rule_taken`. Assumes nothing.
use mathlib.Core.Path.{◌≡◌, refl, ap, ap₂, ◌∙◌}
use mathlib.Core.List.{List, ◌∷◌}
use Prim.Native.Nat.{ℕ, zero, suc, ◌+◌, ◌-◌, ◌*◌, ◌/◌, ◌≤◌, ◌<◌}
use native.Mathlib.Omega.{arith}
use lib.Dec.{T}
use lib.ListN.{length, get_or, take, drop}
use lib.Seq.{get_or-take}
use Rattle.std.proofs.lemmas.List.{drop-take, take-take}
use Rattle.rules.specs.declared.field.Atom.{Atom}
use Rattle.rules.specs.declared.field.Tag.{Tag}
use Rattle.rules.specs.declared.field.Tag.TheVariants.{Header, Clause, Equality, Starting, AtMost, Unknown}
use Rattle.rules.specs.Rules.{clause, equality, starting, at_most}
use Rattle.rules.specs.Reading.{set_at, atom_of, atoms_of, rule_of, length_fits}
use Rattle.rules.proofs.Reading.ContentLaws.{equality-length, starting-length, at_most-length}

-- four bytes within the first so many, as a set
pub set_at-taken : (len at : ℕ) (bytes : List ℕ) → at + 3 < len → set_at (take len bytes) at ≡ set_at bytes at
unfolding set_at
set_at-taken len at bytes h = λ i. ((byte at (omega arith) i * 256 + byte (at + 1) (omega arith) i) * 256 + byte (at + 2) (omega arith) i) * 256 + byte (at + 3) (omega arith) i
  where
    byte : (k : ℕ) → k < len → get_or (take len bytes) k 0 ≡ get_or bytes k 0
    byte k h = get_or-take len bytes k 0 h

-- the atom that the first five of them are
pub atom_taken : (len : ℕ) (bytes : List ℕ) → 5 ≤ len → atom_of (take len bytes) ≡ atom_of bytes
unfolding atom_of
atom_taken len bytes h = λ i. record { position = get_or-take len bytes 0 0 (omega arith) i; set = set_at-taken len 1 bytes (omega arith) i }

-- the bytes behind the first k of them
pub behind : (k len : ℕ) (bytes : List ℕ) → k ≤ len → drop k (take len bytes) ≡ take (len - k) (drop k bytes)
behind k len bytes h = ap (λ (m : ℕ). drop k (take m bytes)) (let e : len ≡ k + (len - k) = omega arith in e) ∙ drop-take k (len - k) bytes

-- and all of these
pub all_behind : (k len : ℕ) (bytes : List ℕ) → k ≤ len → take (len - k) (drop k (take len bytes)) ≡ take (len - k) (drop k bytes)
all_behind k len bytes h = ap (take (len - k)) (behind k len bytes h) ∙ take-take (len - k) (len - k) (drop k bytes) (omega arith)

-- atoms within the first so many bytes
pub atoms_taken : (k len : ℕ) (bytes : List ℕ) → k * 5 ≤ len → atoms_of k (take len bytes) ≡ atoms_of k bytes
unfolding atoms_of
atoms_taken zero len bytes h = refl
atoms_taken (suc k) len bytes h =
    ap₂ (λ (a : Atom) (more : List Atom). a ∷ more) (atom_taken len bytes (omega arith))
    (ap (atoms_of k) (behind 5 len bytes (omega arith)) ∙ atoms_taken k (len - 5) (drop 5 bytes) (omega arith))

-- the rule of a content is that of the first so many of its bytes
pub rule_taken : (kind : Tag) (len : ℕ) (content : List ℕ) → T (length_fits kind len) → len ≤ length content → rule_of kind len (take len content) ≡ rule_of kind len content
unfolding rule_of
rule_taken Header len content fits there = refl
rule_taken Clause len content fits there = ap clause (atoms_taken (len / 5) len content (omega arith))
rule_taken Equality len content fits there =
    let four = equality-length len fits in
    ap₂ equality (set_at-taken len 0 content (omega arith)) (all_behind 4 len content four)
rule_taken Starting len content fits there = ap starting (atom_taken len content (omega (arith, starting-length len fits)))
rule_taken AtMost len content fits there =
    let five = at_most-length len fits in
    λ i. at_most (get_or-take len content 0 0 (omega arith) i) (set_at-taken len 1 content (omega arith) i) (all_behind 5 len content five i)
rule_taken Unknown len content fits there = refl
