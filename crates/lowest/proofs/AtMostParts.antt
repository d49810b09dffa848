-- What "at most k" leaves to be split: nothing where it is settled, `lowest-settled`; else the named positions whose rooms have two or more values and meet the set, `lowest_by_meeting`. Assumes nothing.
use mathlib.Core.Path.{◌≡◌, refl, sym, ap, ◌∙◌, subst}
use mathlib.Core.Logic.Iff
use mathlib.Core.Logic.{◌↔◌, ⊎_elim, inl}
use mathlib.Core.Bool.{Bool, true, false, not, ◌&&◌, true≢false}
use mathlib.Core.List.{List, [], ◌∷◌, Memᴰ}
use Prim.Native.Nat.{ℕ, ◌+◌, ◌-◌}
use native.Mathlib.Omega.{arith}
use lib.Dec.{T, leb}
use lib.ListN.{length, get_or}
use Rattle.sets.specs.Sets.{meets, count}
use Rattle.lists.proofs.LowestLaws.{lowest_same, lowest-none}
use Rattle.lists.proofs.TestLaws.{both_hold, fails_false}
use Rattle.rules.specs.declared.field.Tag.TheVariants.{AtMost}
use Rattle.rules.specs.Rules.{Rule, at_most}
use Rattle.rules.specs.Parts.{no_more_than, parts_of}
use Rattle.rules.specs.Reading.{named, rule_of}
use Rattle.rules.proofs.Reading.NamedLaws.{named_listed}
use Rattle.steps.specs.Boxes.{room_at, wide}
use Rattle.steps.specs.Shrinking.{settled_at_most, is_live_at_most, settled_rule, some_of, live_unsettled, live_in_rule}
use Rattle.steps.proofs.Looks.AtMostLaws.{live-named}
use Rattle.steps.proofs.Looks.LiveTests.{some_of_holds}
use Rattle.steps.proofs.Boxes.BoxSizes.{wide-and}
use Rattle.at_most.proofs.RuleLooks.{rule-settled}
use Rattle.lowest.specs.LowestBy.{splits_by, lowest_by}
use Rattle.lowest.specs.Meeting.{meets_at, lowest_meeting}
use Rattle.lowest.proofs.LowestInTurn.{named_at, lowest_of, named_some}

-- ---- where step 4 may split because of it

module _ (box : List ℕ) (k m : ℕ) (ps : List ℕ) (p : ℕ) where
  -- a position is live in it, where it is not settled: it is named, and its room meets the set
  live_in : T (live_in_rule box p (at_most k m ps)) ↔ ((Memᴰ p ps × T (meets (room_at box p) m)) × (settled_at_most box k m ps ≡ false))
  unfolding parts_of
  live_in =
      Iff.trans (some_of_holds (live_unsettled box p) (no_more_than k m ps ∷ [])) (Iff.trans (⊎_elim (λ t. t) absurd, inl)
      (Iff.trans (both_hold (is_live_at_most m ps p (room_at box p)) (not (settled_at_most box k m ps))) (Iff.and (live-named m ps p (room_at box p)) (fails_false (settled_at_most box k m ps)))))

module _ (box content : List ℕ) (bound : ℕ) {k m : ℕ} {ps : List ℕ} (rule : at_most k m ps ≡ rule_of AtMost (length content) content) where
  -- whether it is settled
  settled : {done : Bool} → done ≡ settled_rule box (rule_of AtMost (length content) content) → settled_at_most box k m ps ≡ done
  settled is = sym (rule-settled k m ps box) ∙ ap (settled_rule box) rule ∙ sym is

  -- where it is not: the lowest index of a named position whose room has two or more values and meets the set
  pub lowest_by_meeting : false ≡ settled_rule box (rule_of AtMost (length content) content) → lowest_meeting box m ps bound ≡ lowest_by box (rule_of AtMost (length content) content) bound
  unfolding room_at
  lowest_by_meeting unmet = sym (lowest_same (splits_by box (at_most k m ps)) (meets_at box m ps) bound (λ i l. splits i)) ∙ ap (λ (r : Rule). lowest_by box r bound) rule
    where
      splits : (i : ℕ) → T (splits_by box (at_most k m ps) i) ↔ T (meets_at box m ps i)
      splits i = (
        λ t. let both = (wide-and box i (live_in_rule box (i + 1) (at_most k m ps))).0 t in
            let live = (live_in box k m ps (i + 1)).0 both.1 in
            (both_hold (named (i + 1) ps) (wide box i && meets (get_or box i 0) m)).1 ((named_listed (i + 1) ps).1 live.0.0, (wide-and box i (meets (get_or box i 0) m)).1 (both.0, subst (λ (j : ℕ). T (meets (get_or box j 0) m)) index live.0.1)),
        λ t. let both = (both_hold (named (i + 1) ps) (wide box i && meets (get_or box i 0) m)).0 t in
            let room = (wide-and box i (meets (get_or box i 0) m)).0 both.1 in
            (wide-and box i (live_in_rule box (i + 1) (at_most k m ps))).1
            (room.0, (live_in box k m ps (i + 1)).1 (((named_listed (i + 1) ps).0 both.0, subst (λ (j : ℕ). T (meets (get_or box j 0) m)) (sym index) room.1), settled unmet)),
      )
        where
          index : i + 1 - 1 ≡ i
          index = omega arith

  -- where it is: nothing
  nothing : true ≡ settled_rule box (rule_of AtMost (length content) content) → bound ≡ lowest_by box (rule_of AtMost (length content) content) bound
  nothing done =
      sym (lowest-none (splits_by box (at_most k m ps)) bound
      (λ i l t. true≢false (sym (settled done) ∙ ((live_in box k m ps (i + 1)).0 ((wide-and box i (live_in_rule box (i + 1) (at_most k m ps))).0 t).1).1)))
      ∙ ap (λ (r : Rule). lowest_by box r bound) rule

pub lowest-settled : (box content : List ℕ) (bound : ℕ) → true ≡ settled_rule box (rule_of AtMost (length content) content) → bound ≡ lowest_by box (rule_of AtMost (length content) content) bound
unfolding rule_of
lowest-settled box content bound done = nothing box content bound refl done

-- ---- position by position

-- whether the room of a position has two or more values and meets the set
abbrev pub meets_wide : List ℕ → ℕ → ℕ → Bool
meets_wide box m p = leb 2 (count (room_at box p)) && meets (room_at box p) m

-- the test of a position, by its room
pub meeting_tested : (box : List ℕ) (m p : ℕ) {room : ℕ} {passes : Bool} → room ≡ room_at box p → passes ≡ (leb 2 (count room) && meets room m) → passes ≡ meets_wide box m p
meeting_tested box m p here is = is ∙ ap (λ (r : ℕ). leb 2 (count r) && meets r m) here

-- the lowest index of a named position that passes this
pub meeting-in_turn : (box : List ℕ) (m : ℕ) (ps : List ℕ) (bound : ℕ) → lowest_meeting box m ps bound ≡ lowest_of (meets_wide box m) ps bound
unfolding room_at
meeting-in_turn box m ps bound = lowest_same (meets_at box m ps) (λ i. some_of (named_at (meets_wide box m) i) ps) bound (λ i l. Iff.trans (words i) (Iff.symm (named_some (meets_wide box m) ps i)))
  where
    here : (i : ℕ) → (wide box i && meets (get_or box i 0) m) ≡ meets_wide box m (i + 1)
    here i = let index : i ≡ i + 1 - 1 = omega arith in ap (λ (j : ℕ). leb 2 (count (get_or box j 0)) && meets (get_or box j 0) m) index

    words : (i : ℕ) → T (meets_at box m ps i) ↔ (Memᴰ (i + 1) ps × T (meets_wide box m (i + 1)))
    words i = Iff.trans (both_hold (named (i + 1) ps) (wide box i && meets (get_or box i 0) m)) (Iff.and (named_listed (i + 1) ps) (rw (here i) Iff.rfl))
