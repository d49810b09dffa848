-- What every case of what follows from one read says of the numbers (`after_bounded`), also of what a turn promises (`turned_bounded`); and that an error of the system's is an interruption exactly where its number is EINTR (`interruption_by_number`). Assumes nothing.
use Prim.Native.Nat.{ℕ, zero, suc, ◌+◌, ◌<◌}
use native.Mathlib.Omega.{arith}
use mathlib.Core.Path.{◌≡◌, refl, sym, subst}
use mathlib.Core.List.{List, [], ◌∷◌}
use mathlib.Core.Bool.{Bool, true, false, cond}
use borrow.Author.Tests.{ltb-true, eqb-true, eqb-false, le-ltb, ne_eqb}
use lib.Dec.{T, ltb, eqb}
use lib.ListN.{length, drop}
use lib.IntN.{ℤ, pos, negsuc}
use Rattle.std.specs.Prelude.{Result, Ok, Err}
use Rattle.std.specs.IoError.{error_kind, os_error_kinds, kind_in, os_error_kind}
use Rattle.std.specs.declared.io.Error.{Error}
use Rattle.std.specs.declared.io.ErrorKind.{ErrorKind}
use Rattle.streams.specs.declared.Next.{Next}
use Rattle.streams.specs.declared.Next.TheVariants.{Whole, More, Again}
use Rattle.streams.specs.declared.NotWhole.{NotWhole}
use Rattle.streams.specs.Turn.{is_interruption, after_of, Turned}

-- what is known of the numbers: an input that ended is shorter than the room, and where more may follow some bytes were moved and room is left
abbrev pub Bounded : ℕ → ℕ → Result Next NotWhole → Type 0
Bounded done room (Ok (Whole n)) = n < room
Bounded done room (Ok (More n)) = (done < n) × (n < room)
Bounded done room (Ok (Again error)) = Unit
Bounded done room (Err e) = Unit

-- what holds on both sides of a test holds of the choice
both_sides : (P : Result Next NotWhole → Type 0) (t : Bool) {x y : Result Next NotWhole} → (t ≡ true → P x) → (t ≡ false → P y) → P (cond t x y)
both_sides P true first second = first refl
both_sides P false first second = second refl

-- whatever follows from a read is bounded
pub after_bounded : (answer : Result ℕ Error) (done room : ℕ) → Bounded done room (after_of answer done room)
after_bounded (Ok moved) done room =
    both_sides (Bounded done room) (ltb (done + moved) room)
    (λ left. both_sides (Bounded done room) (eqb moved 0)
    (λ none. omega (arith, ltb-true (done + moved) room left, eqb-true moved 0 none))
    (λ some. omega (arith, ltb-true (done + moved) room left, eqb-false moved 0 some)))
    (λ full. both_sides (Bounded done room) (eqb (done + moved) room) (λ _. tt) (λ _. tt))
after_bounded (Err error) done room = both_sides (Bounded done room) (is_interruption (error_kind error)) (λ _. tt) (λ _. tt)

-- and so is what a turn answers
pub turned_bounded : (done : ℕ) (before later : List ℕ) (r : Result Next NotWhole) → Turned done before later r → Bounded done (length later) r
turned_bounded done before later r t = subst (Bounded done (length later)) (sym t.follows) (after_bounded t.answer done (length later))

-- no number of these rows has the kind of an interruption
abbrev no_interruption : List (ℕ × ErrorKind) → Bool
no_interruption [] = true
no_interruption (row ∷ rows) = cond (is_interruption row.1) false (no_interruption rows)

-- one row more: where its kind is none and the others give none, none is given
by_row : (t same : Bool) (kind after : ErrorKind) (quiet : Bool) → is_interruption kind ≡ t → cond t false quiet ≡ true → (quiet ≡ true → is_interruption after ≡ false) → is_interruption (cond same kind after) ≡ false
by_row true same kind after quiet is none rest = absurd (subst T (sym none) tt)
by_row false true kind after quiet is none rest = is
by_row false false kind after quiet is none rest = rest none

-- then they give none for any number
never_interrupted : (rows : List (ℕ × ErrorKind)) → no_interruption rows ≡ true → (code : ℕ) → is_interruption (kind_in rows code) ≡ false
never_interrupted [] none code = refl
never_interrupted (row ∷ rows) none code = by_row (is_interruption row.1) (eqb code row.0) row.1 (kind_in rows code) (no_interruption rows) refl none (λ rest. never_interrupted rows rest code)

-- whether a number is that of the error of a call which a signal interrupted, EINTR
abbrev pub is_eintr : ℤ → Bool
is_eintr (pos code) = eqb code 4
is_eintr (negsuc _) = false

-- no number above EINTR has it
by_other : (n : ℕ) → is_interruption (os_error_kind (pos (suc (suc (suc (suc (suc n))))))) ≡ is_eintr (pos (suc (suc (suc (suc (suc n))))))
unfolding os_error_kind
by_other n = let m = suc (suc (suc (suc (suc n)))) in simp (le-ltb m 0 (omega arith), ne_eqb m 1 (λ e. omega arith), ne_eqb m 2 (λ e. omega arith), ne_eqb m 4 (λ e. omega arith), never_interrupted (drop 3 os_error_kinds) refl m)

-- an error of the system's is an interruption exactly where its number is EINTR
pub interruption_by_number : (code : ℤ) → is_interruption (os_error_kind code) ≡ is_eintr code
unfolding os_error_kind
interruption_by_number (negsuc n) = refl
interruption_by_number (pos zero) = refl
interruption_by_number (pos (suc zero)) = refl
interruption_by_number (pos (suc (suc zero))) = refl
interruption_by_number (pos (suc (suc (suc zero)))) = refl
interruption_by_number (pos (suc (suc (suc (suc zero))))) = refl
interruption_by_number (pos (suc (suc (suc (suc (suc n)))))) = by_other n
