-- Laws of the check: the header, and then the fields one by one, from a place to the next. Assumes nothing.
use mathlib.Core.Path.{◌≡◌, refl, sym, ap, ap₂, ◌∙◌}
use mathlib.Core.List.{List}
use Prim.Native.Nat.{ℕ, zero, suc, ◌+◌, ◌≤◌, ◌<◌}
use native.Mathlib.Omega.{arith}
use lib.ListN.{length, get_or, drop, length-drop}
use Rattle.std.specs.Prelude.{Result, Ok, Err, MatchResult}
use Rattle.std.specs.Result.{IsErrAnd}
use Rattle.rules.specs.declared.fault.Fault.{Fault}
use Rattle.rules.specs.declared.field.Head.{Head}
use Rattle.rules.specs.Fault.{number_of, number_told}
use Rattle.rules.specs.Rules.{Rule}
use Rattle.rules.specs.Reading.{Reading, sound, refused, refuse_for, with_rule, head_of, content_of, rule_at, size_of, header_fault, seen_with, fault_after, read_fields, reading}
use Rattle.rules.proofs.Reading.FaultlessLaws.{SoundField, fault_after-none, header_fault-none}
use Rattle.rules.proofs.Reading.FieldByField.{read_on, read_end}
use Rattle.sound.specs.declared.check.Limits.{Limits}
use Rattle.sound.specs.declared.check.Refused.{Refused}
use Rattle.sound.specs.Checked.{Checked, sound_with, refused_with, told_of, checked_of}

-- one rule more in front changes no verdict
checked-with_rule : (rule : Rule) (r : Reading) → checked_of (with_rule rule r) ≡ checked_of r
unfolding checked_of
checked-with_rule rule (sound file) = refl
checked-with_rule rule (refused number place) = refl

-- a fault is refused at its place
refuse_so : (fault place : ℕ) (rest : Unit {0} → Reading) → (fault ≡ 0 → ⊥) → checked_of (refuse_for fault place rest) ≡ refused_with fault place
unfolding checked_of
refuse_so zero place rest h = absurd (h refl)
refuse_so (suc k) place rest h = refl

-- ---- refusals

module _ {A : Type 0} (r : Result A Fault) (m : Result A Refused) (place : ℕ) (made : MatchResult r (λ x. m ≡ Ok x) (λ fault. m ≡ Err (record { fault = fault; place = place }))) where
  -- of a test's fault a refusal was made: it has the fault, and the place
  pub refused_at : (refusal : Refused) → m ≡ Err refusal → (number_told r ≡ number_of refusal.fault) × (refusal.place ≡ place)
  unfolding number_told
  refused_at refusal was = go r made
    where
      go : (r : Result A Fault) → MatchResult r (λ x. m ≡ Ok x) (λ fault. m ≡ Err (record { fault = fault; place = place })) → (number_told r ≡ number_of refusal.fault) × (refusal.place ≡ place)
      go (Ok x) kept = (cc, cc)
      go (Err e) made =
          let same : refusal ≡ record { fault = e; place = place } = cc in
          (ap (λ (q : Refused). number_of q.fault) (sym same), ap (λ (q : Refused). q.place) same)

  -- where none was made, the test gave the value
  pub kept_at : (x : A) → m ≡ Ok x → r ≡ Ok x
  kept_at x was = go r made
    where
      go : (r : Result A Fault) → MatchResult r (λ x. m ≡ Ok x) (λ fault. m ≡ Err (record { fault = fault; place = place })) → r ≡ Ok x
      go (Ok y) kept = cc
      go (Err e) made = cc

-- what an answer says that is a refusal
pub told_refused : (r : Result Limits Refused) (refusal : Refused) → IsErrAnd r (λ f. f ≡ refusal) → told_of r ≡ refused_with (number_of refusal.fault) refusal.place
told_refused (Ok x) refusal same = absurd same
told_refused (Err f) refusal same = ap (λ (q : Refused). refused_with (number_of q.fault) q.place) same

-- a test that gave a value told no fault
pub none_given : {A : Type 0} (r : Result A Fault) (x : A) → r ≡ Ok x → number_told r ≡ 0
unfolding number_told
none_given r x e = ap number_told e

-- ---- the header

-- the verdict on the fields from a place on, where the positions seen have a starting set in front of it
abbrev pub verdict_from : List ℕ → ℕ → ℕ → ℕ → ℕ → Checked
verdict_from s v n seen at = checked_of (read_fields (length s) v n seen at (drop at s))

-- the fields behind the header
abbrev fields : List ℕ → Unit {0} → Reading
fields s _ = read_fields (length s) (get_or s 3 0) (get_or s 4 0) 0 5 (drop 5 s)

module _ (s : List ℕ) {fault : ℕ} (found : fault ≡ header_fault s) where
  -- a header with a fault is refused at the start
  pub header_refuses : (fault ≡ 0 → ⊥) → checked_of (reading s) ≡ refused_with fault 0
  unfolding reading
  header_refuses some = ap (λ (f : ℕ). checked_of (refuse_for f 0 (fields s))) (sym found) ∙ refuse_so fault 0 (fields s) some

  -- one with none leaves the verdict to the fields behind it
  pub header_passes : fault ≡ 0 → checked_of (reading s) ≡ verdict_from s (get_or s 3 0) (get_or s 4 0) 0 5
  unfolding reading
  header_passes none = ap (λ (f : ℕ). checked_of (refuse_for f 0 (fields s))) (sym found ∙ none)

  -- and is there whole, with at most 64 positions
  pub header_long : fault ≡ 0 → (5 ≤ length s) × (get_or s 3 0 ≤ 64)
  unfolding content_of
  header_long none = let header = (header_fault-none s).0 (sym found ∙ none) in omega (arith, header.content_there, header.positions, length-drop 3 s)

-- ---- the fields

-- the check has come to `at` and seen starting sets of these positions: the fields from there on decide
pub record Unchecked (s : List ℕ) (v n seen at : ℕ) : Type 0 where
  pub within : at ≤ length s
  pub verdict : verdict_from s v n 0 5 ≡ verdict_from s v n seen at

-- at the end the file is sound
pub fields_end : {s : List ℕ} {v n seen at : ℕ} → Unchecked s v n seen at → length s ≤ at → verdict_from s v n 0 5 ≡ sound_with v n
unfolding checked_of
fields_end {s} {v} {n} {seen} {at} here past = here.verdict ∙ ap checked_of (read_end v n seen at s past)

module _ {s : List ℕ} {v n seen at : ℕ} (here : Unchecked s v n seen at) (before : at < length s) {fault : ℕ} (found : fault ≡ fault_after v n seen (drop at s)) where
  abbrev behind : Unit {0} → Reading
  behind _ = with_rule (rule_at (drop at s)) (read_fields (length s) v n (seen_with (rule_at (drop at s)) seen) (at + size_of (drop at s)) (drop (at + size_of (drop at s)) s))

  verdict-here : verdict_from s v n 0 5 ≡ checked_of (refuse_for fault at behind)
  verdict-here = here.verdict ∙ ap checked_of (read_on v n seen at s before ∙ ap (λ (f : ℕ). refuse_for f at behind) (sym found))

  -- a field with a fault is refused at its place
  pub field_refuses : (fault ≡ 0 → ⊥) → verdict_from s v n 0 5 ≡ refused_with fault at
  field_refuses some = verdict-here ∙ refuse_so fault at behind some

  module _ (none : fault ≡ 0) where
    -- one with none passes its tests
    pub field_tests : SoundField v n (drop at s)
    field_tests = ((fault_after-none v n seen (drop at s)).0 (sym found ∙ none)).0

    module _ {head : Head} (read : head ≡ head_of (drop at s)) where
      -- it lies within the bytes
      pub field_ends : at + 3 + head.length ≤ length s
      unfolding content_of
      field_ends =
          omega (arith, field_tests.head_there, field_tests.content_there, ap (λ (h : Head). h.length) read, length-drop at s, length-drop 3 (drop at s))

      -- and leaves the verdict to the fields behind it
      pub field_passes : {seen' : ℕ} → seen' ≡ seen_with (rule_at (drop at s)) seen → (next : ℕ) → next ≡ at + 3 + head.length → Unchecked s v n seen' next
      unfolding size_of
      field_passes more next e =
          let same : at + size_of (drop at s) ≡ next = omega (arith, ap (λ (h : Head). h.length) read) in
          record {
            within = omega (arith, field_ends);
            verdict =
                verdict-here ∙ ap (λ (f : ℕ). checked_of (refuse_for f at behind)) none ∙ checked-with_rule (rule_at (drop at s)) _
                ∙ ap₂ (verdict_from s v n) (sym more) same;
          }
