-- Laws of faults that are told: a fault that `?` returns is the first, `told_first`, a test that tells none leaves it to those behind it, `none_told`, and the number says which fault it is, `same_told`. Assumes nothing.
use mathlib.Core.Path.{◌≡◌, refl, sym, ap, ◌∙◌}
use mathlib.Core.Bool.{cond}
use Prim.Native.Nat.{ℕ, zero, suc}
use native.Mathlib.Omega.{arith}
use lib.Dec.{eqb}
use Rattle.std.specs.Prelude.{Result, Ok, Err}
use Rattle.std.specs.Result.{IsErrAnd}
use Rattle.rules.specs.declared.fault.Fault.{Fault}
use Rattle.rules.specs.declared.fault.Fault.TheVariants.{CutOff, NoHeader, SecondHeader, UnknownTag, WrongLength, WrongLimits, WrongPosition, WrongSet, EmptyStart, SecondStart, NamedTwice}
use Rattle.rules.specs.Fault.{number_of, number_told}
use Rattle.rules.specs.Reading.{or_else}
use Rattle.contents.specs.Promise.{FirstOf}

-- a fault has a number
pub numbered : (fault : Fault) → number_of fault ≡ 0 → ⊥
unfolding number_of
numbered CutOff e = omega arith
numbered NoHeader e = omega arith
numbered SecondHeader e = omega arith
numbered UnknownTag e = omega arith
numbered WrongLength e = omega arith
numbered WrongLimits e = omega arith
numbered WrongPosition e = omega arith
numbered WrongSet e = omega arith
numbered EmptyStart e = omega arith
numbered SecondStart e = omega arith
numbered NamedTwice e = omega arith

-- the first fault counts
first_fault : (number later : ℕ) → (number ≡ 0 → ⊥) → number ≡ or_else number later
first_fault zero later h = absurd (h refl)
first_fault (suc k) later h = refl

-- a test told a fault, and `?` returned it: that is the first
pub told_first : {A : Type 0} (r : Result A Fault) (fault : Fault) (later : ℕ) {first : ℕ} → IsErrAnd r (λ f. f ≡ fault) → number_told {A = Unit {0}} (Err fault) ≡ first → FirstOf first later (number_told r)
unfolding number_told
told_first (Ok x) fault later same is = absurd same
told_first (Err f) fault later same is = first_fault (number_of f) later (numbered f) ∙ ap (λ (number : ℕ). or_else number later) (ap number_of same ∙ is)

-- a test told none: those behind it tell the first
pub none_told : (later : ℕ) {first : ℕ} → number_told {A = Unit {0}} (Ok tt) ≡ first → FirstOf first later later
unfolding number_told
none_told later is = ap (λ (number : ℕ). or_else number later) is

-- ---- the number says which fault it is

-- the fault with a number
abbrev fault_with : ℕ → Fault
fault_with number =
    cond (eqb number 13) CutOff (cond (eqb number 14) NoHeader (cond (eqb number 15) SecondHeader (cond (eqb number 16) UnknownTag (cond (eqb number 17) WrongLength
    (cond (eqb number 18) WrongLimits (cond (eqb number 19) WrongPosition (cond (eqb number 20) WrongSet (cond (eqb number 26) EmptyStart (cond (eqb number 27) SecondStart NamedTwice)))))))))

with_number : (fault : Fault) → fault_with (number_of fault) ≡ fault
unfolding number_of
with_number CutOff = refl
with_number NoHeader = refl
with_number SecondHeader = refl
with_number UnknownTag = refl
with_number WrongLength = refl
with_number WrongLimits = refl
with_number WrongPosition = refl
with_number WrongSet = refl
with_number EmptyStart = refl
with_number SecondStart = refl
with_number NamedTwice = refl

-- two faults with one number are the same
pub same_fault : (f g : Fault) → number_of f ≡ number_of g → f ≡ g
same_fault f g e = sym (with_number f) ∙ ap fault_with e ∙ with_number g

-- two tests that tell one number tell the same
pub same_told : (r s : Result (Unit {0}) Fault) → number_told r ≡ number_told s → r ≡ s
unfolding number_told
same_told (Ok _) (Ok _) e = refl
same_told (Ok _) (Err g) e = absurd (numbered g (sym e))
same_told (Err f) (Ok _) e = absurd (numbered f e)
same_told (Err f) (Err g) e = ap Err (same_fault f g e)
