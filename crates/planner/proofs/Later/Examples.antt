-- R-14 by example. What may happen when a rule is added: NONE becomes UNDECIDED at the same allowance (`none_then-undecided`), and the place of a NONE moves (`place_moves`), computed. And
-- what both statements rule out, and what not, of replies that are made up. Assumes nothing.
use mathlib.Core.Path.{◌≡◌, refl, ap}
use mathlib.Core.Logic.{◌↔◌, ◌⊎◌, inl, inr, ⊎_elim}
use mathlib.Core.List.{List, [], ◌∷◌, ◌++◌}
use Prim.Native.Nat.{ℕ, ◌≤◌}
use native.Mathlib.Decide.{ℕ_discrete}
use native.Mathlib.Omega.{arith}
use lib.ListN.{length, get_or}
use Rattle.rules.specs.Rules.{at_most, starting}
use Rattle.rules.specs.Writing.{two_bytes, four_bytes, written_atoms, framed, tag_byte, content_bytes, written_rule}
use Rattle.rules.proofs.DictionaryOrder.{not_earlier-exactly}
use Rattle.steps.specs.Cases.{case, late, late_bytes, late_field, case_late_none, case_late_undecided, place_bytes, place_field, case_place_before, case_place_moved}
use Rattle.searching.specs.declared.reply.Reply.{Reply}
use Rattle.planner.specs.Promise.{Planned}
use Rattle.planner.specs.Later.{Decided, RulesAdded, Stays}
use Rattle.planner.proofs.StarredPlanned.{starred-planned}

-- ---- what may happen

-- the fields that are added: at most one of positions 1, 3, 4 and 5 in {2}, and position 1 starts at {2}
pub late-fields : (late_field ≡ written_rule (at_most 1 2 (1 ∷ 3 ∷ 4 ∷ 5 ∷ []))) × (place_field ≡ written_rule (starting (record { position = 1; set = 2 })))
unfolding late_field place_field written_rule framed two_bytes tag_byte content_bytes written_atoms four_bytes
late-fields = (refl, refl)

module _ (before after before' later : List ℕ) (r s : Reply) (roomy : 64 ≤ length before) (roomy' : 64 ≤ length before') where
  -- with one split allowed for both calls, NONE becomes UNDECIDED
  pub none_then-undecided : Planned late_bytes before after 1 r → Planned (late_bytes ++ late_field) before' later 1 s → (r.number ≡ 1) × (s.number ≡ 2)
  unfolding case late case_late_none case_late_undecided
  none_then-undecided p q = (
    ap (λ (g : Reply). g.number) (starred-planned.5.0 before after r roomy p).reply,
    ap (λ (g : Reply). g.number) (starred-planned.5.1.0 before' later s roomy' q).reply,
  )

  -- both are NONE with no split, and the field first found dead is another
  pub place_moves : Planned place_bytes before after 1000000 r → Planned (place_bytes ++ place_field) before' later 1000000 s → (r.place ≡ 13) × (s.place ≡ 5)
  unfolding case late case_place_before case_place_moved
  place_moves p q = (
    ap (λ (g : Reply). g.place) (starred-planned.5.1.1.1.0 before after r roomy p).reply,
    ap (λ (g : Reply). g.place) (starred-planned.5.1.1.1.1.0 before' later s roomy' q).reply,
  )

-- ---- what the statements say

-- a reply is decided exactly if it is PLAN or NONE
pub decided-exactly : (r : Reply) → Decided r ↔ ((r.number ≡ 0) ⊎ (r.number ≡ 1))
decided-exactly r = (λ h. either h (ℕ_discrete r.number 0), ⊎_elim (λ zero. omega arith) (λ one. omega arith))
  where
    either : Decided r → Dec (r.number ≡ 0) → (r.number ≡ 0) ⊎ (r.number ≡ 1)
    either h (yes zero) = inl zero
    either h (no other) = inr (omega arith)

-- a reply with a number and some splits
abbrev reply : ℕ → ℕ → Reply
reply number splits = record { number = number; place = 0; splits = splits; dead_ends = 0; rounds = 1 }

-- a rule was added: NONE that becomes UNDECIDED, a plan that stays and one that is later, by the first position, are as it says
pub added_allows : RulesAdded 2 (reply 1 1) [] (reply 2 1) []
    × RulesAdded 2 (reply 0 1) (1 ∷ 2 ∷ 9 ∷ []) (reply 0 0) (1 ∷ 2 ∷ 7 ∷ [])
    × RulesAdded 2 (reply 0 0) (1 ∷ 2 ∷ []) (reply 0 0) (2 ∷ 1 ∷ [])
added_allows = (
  record { none = λ one decided. absurd (omega arith); plan = λ zero zero'. absurd (omega arith) },
  record { none = λ one decided. absurd (omega arith); plan = λ zero zero'. inl refl },
  record { none = λ one decided. absurd (omega arith); plan = λ zero zero'. inr (inl (omega arith)) },
)

-- NONE that becomes a plan, and a plan that is earlier, by the first position or by the last, are not
pub added-rules_out : (RulesAdded 2 (reply 1 1) [] (reply 0 1) (1 ∷ 1 ∷ []) → ⊥)
    × (RulesAdded 2 (reply 0 0) (2 ∷ 1 ∷ []) (reply 0 0) (1 ∷ 2 ∷ []) → ⊥)
    × (RulesAdded 2 (reply 0 0) (1 ∷ 2 ∷ []) (reply 0 0) (1 ∷ 1 ∷ []) → ⊥)
added-rules_out = (
  λ h. absurd (omega (arith, h.none refl (omega arith))),
  λ h. (not_earlier-exactly (2 ∷ 1 ∷ []) (1 ∷ 2 ∷ []) refl).0 (h.plan refl refl) (inl (omega arith)),
  λ h. (not_earlier-exactly (1 ∷ 2 ∷ []) (1 ∷ 1 ∷ []) refl).0 (h.plan refl refl) (inr (refl, inl (omega arith))),
)

-- the allowance was raised: the same reply, and the same plan in another buffer, are as it says
pub raised_allows : Stays 2 (reply 0 1) (1 ∷ 2 ∷ 9 ∷ []) (reply 0 1) (7 ∷ 7 ∷ 7 ∷ []) (1 ∷ 2 ∷ 7 ∷ []) × Stays 2 (reply 1 1) [] (reply 1 1) (7 ∷ []) (7 ∷ [])
raised_allows = (record { reply = refl; plan = λ zero. refl; none = λ one. absurd (omega arith) }, record { reply = refl; plan = λ zero. absurd (omega arith); none = λ one. refl })

-- other counts, another plan, by the last position, and NONE that writes are not
pub raised-rules_out : (Stays 2 (reply 1 1) [] (reply 1 2) [] [] → ⊥)
    × (Stays 2 (reply 0 1) (1 ∷ 2 ∷ []) (reply 0 1) (7 ∷ 7 ∷ []) (1 ∷ 1 ∷ []) → ⊥)
    × (Stays 2 (reply 1 1) [] (reply 1 1) (7 ∷ []) (8 ∷ []) → ⊥)
raised-rules_out = (
  λ h. omega (arith, ap (λ (g : Reply). g.splits) h.reply),
  λ h. omega (arith, ap (λ (values : List ℕ). get_or values 1 0) (h.plan refl)),
  λ h. omega (arith, ap (λ (values : List ℕ). get_or values 0 0) (h.none refl)),
)
