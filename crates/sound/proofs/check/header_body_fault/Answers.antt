-- `sound::check::header_body_fault` meets its contract: test by test. Assumes nothing.
use Rattle.std.proofs.Common.{◌≡◌, sym, ◌∙◌, Bool, true, false, not, List, ℕ, ◌≤◌, length, get_or, drop, length-drop, arith}
use borrow.Author.Tests.{eq-eqb, ne_eqb, lt-ltb, le-ltb}
use Rattle.rules.specs.Fault.{number_of, number_told}
use Rattle.rules.specs.Reading.{fault_if, content_of, length_fits, limits_fit, header_body_fault}
use Rattle.sound.proofs.check.header_body_fault.Goals as goal

-- a length of 2 with the bytes there: the limits alone decide
limits : (b : Bool) (bytes : List ℕ) (len : ℕ) → len ≡ 2 → 5 ≤ length bytes → limits_fit (get_or bytes 3 0) (get_or bytes 4 0) ≡ b → header_body_fault len bytes ≡ fault_if (not b) 18 (λ _. 0)
unfolding header_body_fault length_fits content_of
limits b bytes len two there l = simp (eq-eqb len 2 two, le-ltb (length (drop 3 bytes)) 2 (omega (arith, length-drop 3 bytes)), l)

pub returns-then-len-ne2-clause-told : goal.returns-then-len-ne2-clause-told
unfolding number_of number_told header_body_fault length_fits
returns-then-len-ne2-clause-told c = simp (ne_eqb c.args.len 2 c.if-len-ne2.true)

pub returns-then-input-lt5-clause-told : goal.returns-then-input-lt5-clause-told
unfolding number_of number_told header_body_fault length_fits content_of
returns-then-input-lt5-clause-told c =
    let a = c.args in
    simp (eq-eqb a.len 2 c.if-len-ne2.false, lt-ltb (length (drop 3 a.input.now)) 2 (omega (arith, length-drop 3 a.input.now)))

pub returns-then-not-within-clause-told : goal.returns-then-not-within-clause-told
unfolding number_of number_told limits_fit
returns-then-not-within-clause-told c =
    let a = c.args in
    sym (limits false a.input.now a.len c.if-len-ne2.false (omega arith) (simp (sym c.from-positions.ensures, sym c.within.ensures ∙ c.if-not-within.true)))

pub returns-then-not-within-2-clause-told : goal.returns-then-not-within-2-clause-told
unfolding number_of number_told limits_fit
returns-then-not-within-2-clause-told c =
    let a = c.args in
    sym (limits false a.input.now a.len c.if-len-ne2.false (omega arith)
    (simp (sym c.from-positions.ensures, sym c.from-values.ensures, sym c.within.ensures ∙ c.if-not-within.false, sym c.within-2.ensures ∙ c.if-not-within-2.true)))

pub returns-clause-told : goal.returns-clause-told
unfolding number_told limits_fit
returns-clause-told c =
    let a = c.args in
    sym (limits true a.input.now a.len c.if-len-ne2.false (omega arith)
    (simp (sym c.from-positions.ensures, sym c.from-values.ensures, sym c.within.ensures ∙ c.if-not-within.false, sym c.within-2.ensures ∙ c.if-not-within-2.false)))
