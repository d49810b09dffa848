-- Any two results that a promise allows are equal, for each function of `src/`. Assumes nothing.
use mathlib.Core.Path.{◌≡◌, sym, ◌∙◌}
use mathlib.Core.Bool.{Bool}
use Prim.Native.Nat.{ℕ}
use Rattle.sets.specs.Promise.{Full, Single, Union, Common, Inside, Empty, Meets, Complement, Count, Smallest, Others, Marked, Marks}

-- a promise that names its result allows one result
pub one-result {ℓ} : {A : Type ℓ} {e r s : A} → r ≡ e → s ≡ e → r ≡ s
one-result p q = p ∙ sym q

pub full_unique : {n r s : ℕ} → Full n r → Full n s → r ≡ s
full_unique p q = one-result p.result q.result

pub single_unique : {x r s : ℕ} → Single x r → Single x s → r ≡ s
single_unique p q = one-result p.result q.result

pub union_unique : {a b r s : ℕ} → Union a b r → Union a b s → r ≡ s
union_unique p q = one-result p.result q.result

pub common_unique : {a b r s : ℕ} → Common a b r → Common a b s → r ≡ s
common_unique p q = one-result p.result q.result

pub inside_unique : {a b : ℕ} {r s : Bool} → Inside a b r → Inside a b s → r ≡ s
inside_unique p q = one-result p.result q.result

pub empty_unique : {m : ℕ} {r s : Bool} → Empty m r → Empty m s → r ≡ s
empty_unique p q = one-result p.result q.result

pub meets_unique : {a b : ℕ} {r s : Bool} → Meets a b r → Meets a b s → r ≡ s
meets_unique p q = one-result p.result q.result

pub complement_unique : {n m r s : ℕ} → Complement n m r → Complement n m s → r ≡ s
complement_unique p q = one-result p.result q.result

pub count_unique : {m r s : ℕ} → Count m r → Count m s → r ≡ s
count_unique p q = one-result p.result q.result

pub smallest_unique : {m r s : ℕ} → Smallest m r → Smallest m s → r ≡ s
smallest_unique p q = one-result p.result q.result

pub others_unique : {m r s : ℕ} → Others m r → Others m s → r ≡ s
others_unique p q = one-result p.result q.result

pub marked_unique : {marks p : ℕ} {r s : Bool} → Marked marks p r → Marked marks p s → r ≡ s
marked_unique p q = one-result p.result q.result

pub marks_unique : {marks p r s : ℕ} → Marks marks p r → Marks marks p s → r ≡ s
marks_unique p q = one-result p.result q.result
