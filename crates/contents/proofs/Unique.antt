-- Any two results that a promise of `src/` allows are equal, for each public function, and for two tests with `?` between them. Assumes nothing.
use mathlib.Core.Path.{◌≡◌, sym, ◌∙◌}
use mathlib.Core.Bool.{Bool}
use mathlib.Core.List.{List}
use Prim.Native.Nat.{ℕ}
use Rattle.std.specs.Prelude.{Result}
use Rattle.sets.proofs.Unique.{one-result}
use Rattle.rules.specs.declared.fault.Fault.{Fault}
use Rattle.rules.specs.declared.field.Tag.{Tag}
use Rattle.contents.specs.Promise.{OneTo, FirstOf, LengthFits, ContentFault}
use Rattle.contents.proofs.FaultLaws.{same_told}

pub within_unique : (high x : ℕ) {r s : Bool} → OneTo high x r → OneTo high x s → r ≡ s
within_unique high x p q = one-result p q

pub first_of_unique : (first second : ℕ) {r s : ℕ} → FirstOf first second r → FirstOf first second s → r ≡ s
first_of_unique first second p q = one-result p q

pub length_fits_unique : (kind : Tag) (len : ℕ) {r s : Bool} → LengthFits kind len r → LengthFits kind len s → r ≡ s
length_fits_unique kind len p q = one-result p q

pub content_fault_unique : (content : List ℕ) (kind : Tag) (v n : ℕ) {r s : Result (Unit {0}) Fault} → ContentFault content kind v n r → ContentFault content kind v n s → r ≡ s
content_fault_unique content kind v n {r} {s} p q = same_told r s (p ∙ sym q)
