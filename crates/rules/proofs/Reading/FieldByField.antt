-- Laws of reading a file field by field. Assumes nothing.
use mathlib.Core.Path.{◌≡◌, refl, sym, ap, ◌∙◌}
use mathlib.Core.List.{List, [], ◌∷◌}
use mathlib.Core.Logic.{⊎_elim}
use Prim.Native.Nat.{ℕ, zero, suc, ◌+◌, ◌-◌, ◌≤◌, ◌<◌}
use native.Mathlib.Nat.{not-suc-le-zero, eq-zero-or-pos}
use native.Mathlib.Omega.{arith}
use lib.ListN.{length, drop, length-drop}
use lib.Seq.{drop-drop}
use Rattle.rules.specs.Rules.{Rule, File}
use Rattle.rules.specs.Reading.{Reading, sound, refused, refuse_for, with_rule, rule_at, size_of, seen_with, fault_after, read_fields}

-- no bytes are left: no field
pub read_done : (k v n seen place : ℕ) (bytes : List ℕ) → length bytes ≡ 0 → read_fields k v n seen place bytes ≡ sound (record { v = v; n = n; rules = [] })
unfolding read_fields
read_done zero v n seen place bytes e = refl
read_done (suc k) v n seen place [] e = refl
read_done (suc k) v n seen place (b ∷ bs) e = absurd (omega arith)

-- some bytes are left: one field, and what comes behind it
pub read_step : (k v n seen place : ℕ) (bytes : List ℕ) → 0 < length bytes
    → read_fields (suc k) v n seen place bytes
    ≡ refuse_for (fault_after v n seen bytes) place (λ _. with_rule (rule_at bytes) (read_fields k v n (seen_with (rule_at bytes) seen) (place + size_of bytes) (drop (size_of bytes) bytes)))
unfolding read_fields
read_step k v n seen place [] h = absurd (not-suc-le-zero h)
read_step k v n seen place (b ∷ bs) h = refl

-- a field takes 3 bytes or more
pub field_shortens : (k : ℕ) (bytes : List ℕ) → length bytes ≤ suc k → length (drop (size_of bytes) bytes) ≤ k
unfolding size_of
field_shortens k bytes h = omega (arith, length-drop (size_of bytes) bytes)

-- so its size is 3 at least
size-least : (bytes : List ℕ) → 3 ≤ size_of bytes
unfolding size_of
size-least bytes = omega arith

-- more steps than there are bytes change nothing
pub read-enough : (k j v n seen place : ℕ) (bytes : List ℕ) → length bytes ≤ k → length bytes ≤ j → read_fields k v n seen place bytes ≡ read_fields j v n seen place bytes
read-enough zero j v n seen place bytes hk hj = read_done zero v n seen place bytes (omega arith) ∙ sym (read_done j v n seen place bytes (omega arith))
read-enough (suc k) zero v n seen place bytes hk hj = read_done (suc k) v n seen place bytes (omega arith) ∙ sym (read_done zero v n seen place bytes (omega arith))
read-enough (suc k) (suc j) v n seen place bytes hk hj =
    ⊎_elim (λ (e : length bytes ≡ 0). read_done (suc k) v n seen place bytes e ∙ sym (read_done (suc j) v n seen place bytes e))
    (λ (h : 0 < length bytes).
    read_step k v n seen place bytes h
    ∙ ap (λ (rest : Reading). refuse_for (fault_after v n seen bytes) place (λ _. with_rule (rule_at bytes) rest))
    (read-enough k j v n (seen_with (rule_at bytes) seen) (place + size_of bytes) (drop (size_of bytes) bytes) (field_shortens k bytes hk) (field_shortens j bytes hj))
    ∙ sym (read_step j v n seen place bytes h))
    (eq-zero-or-pos (length bytes))

-- ---- readings that are sound

-- a reading that did not refuse had no fault, and went on
pub refuse_for-sound : (fault place : ℕ) (rest : Unit {0} → Reading) (file : File) → refuse_for fault place rest ≡ sound file → (fault ≡ 0) × (rest tt ≡ sound file)
refuse_for-sound zero place rest file e = (refl, e)
refuse_for-sound (suc number) place rest file e = let z : ◌≡◌ {A = ℕ} 0 1 = cc in absurd (omega arith)

-- a sound reading with a rule in front was sound behind it
pub with_rule-sound : (r : Rule) (found : Reading) (file : File) → with_rule r found ≡ sound file
    → (later : File) × (found ≡ sound later) × (record { v = later.v; n = later.n; rules = r ∷ later.rules } ≡ file)
with_rule-sound r (sound later) file e = (later, refl, cc)
with_rule-sound r (refused number place) file e = let z : ◌≡◌ {A = ℕ} 0 1 = cc in absurd (omega arith)

-- ---- walking over the bytes of a whole file

-- from a place inside the file on: one field, and what comes behind it
pub read_on : (v n seen at : ℕ) (s : List ℕ) → at < length s
    → let bytes = drop at s in
    read_fields (length s) v n seen at bytes
    ≡ refuse_for (fault_after v n seen bytes) at (λ _. with_rule (rule_at bytes) (read_fields (length s) v n (seen_with (rule_at bytes) seen) (at + size_of bytes) (drop (at + size_of bytes) s)))
read_on v n seen at s h =
    ap (λ (k : ℕ). read_fields k v n seen at bytes) one_more
    ∙ read_step (length s - 1) v n seen at bytes (omega (arith, length-drop at s))
    ∙ ap (λ (rest : Reading). refuse_for (fault_after v n seen bytes) at (λ _. with_rule (rule_at bytes) rest))
    (ap (read_fields (length s - 1) v n later (at + size_of bytes)) (drop-drop (size_of bytes) at s)
    ∙ read-enough (length s - 1) (length s) v n later (at + size_of bytes) (drop (at + size_of bytes) s) (shorter (drop (at + size_of bytes) s) (length-drop (at + size_of bytes) s)) (omega (arith, length-drop (at + size_of bytes) s)))
  where
    bytes : List ℕ
    bytes = drop at s

    later : ℕ
    later = seen_with (rule_at bytes) seen

    one_more : length s ≡ suc (length s - 1)
    one_more = omega arith

    size : 3 ≤ size_of bytes
    size = size-least bytes

    shorter : (rest : List ℕ) → length rest ≡ length s - (at + size_of bytes) → length rest ≤ length s - 1
    shorter rest e = omega (arith, size)

-- at the end of the file: no field
pub read_end : (v n seen at : ℕ) (s : List ℕ) → length s ≤ at → read_fields (length s) v n seen at (drop at s) ≡ sound (record { v = v; n = n; rules = [] })
read_end v n seen at s h = read_done (length s) v n seen at (drop at s) (omega (arith, length-drop at s))
