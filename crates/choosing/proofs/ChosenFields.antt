-- Laws of where to split: the fields of a sound file one by one. Assumes nothing.
use mathlib.Core.Path.{◌≡◌, refl, sym, ap, ◌∙◌, subst}
use mathlib.Core.Logic.{◌↔◌, ◌⊎◌, inl, inr, ⊎_elim, ⊎_map}
use mathlib.Core.Bool.{Bool, true, false, not, ◌||◌}
use Rattle.std.specs.Bool.{then_some}
use Rattle.std.proofs.Common.{rules}
use Rattle.std.specs.Prelude.{Option, Some, None}
use mathlib.Core.List.{List, [], ◌∷◌, map}
use Prim.Native.Nat.{ℕ, ◌+◌, ◌≤◌, ◌<◌}
use native.Mathlib.Omega.{arith}
use lib.Dec.{T, ltb, lt→ltb, ltb→lt}
use lib.ListN.{length, get_or}
use Rattle.lists.specs.Lowest.{lowest}
use Rattle.lists.proofs.LowestLaws.{lowest_before, lowest-none, lowest_same, lowest_either}
use Rattle.lists.proofs.TestLaws.{either_holds, le_holds, lt_fails, fails_false, test_true}
use Rattle.sets.specs.Sets.{count}
use Rattle.rules.specs.Rules.{Field}
use Rattle.rules.specs.Reading.{rule_of}
use Rattle.rules.specs.Each.{Framed, frames_in, as_field, FrameFits}
use Rattle.rules.specs.Sound.{fields_in, SoundInput}
use Rattle.rules.proofs.Reading.FrameLaws.{Framing, frames_sound}
use Rattle.steps.specs.Shrinking.{live_in_rule, live_in_fields, some_of}
use Rattle.steps.specs.Search.{splittable, chosen}
use Rattle.steps.proofs.Boxes.BoxSizes.{wide-and}
use Rattle.steps.proofs.Search.Chosen.{may_split}
use Rattle.steps.specs.Boxes.{wide}
use Rattle.lowest.specs.LowestBy.{splits_by, lowest_by}
use Rattle.choosing.specs.FirstWide.{index_below, first_wide}

-- an index as it is answered: below the bound it is there, and the bound is none
pub index-there : {bound i : ℕ} → i < bound → Some i ≡ index_below bound i
index-there {bound} {i} h = ap (λ (b : Bool). then_some b i) (sym (test_true (ltb i bound) (lt→ltb i bound h)))

pub index-none : {bound i : ℕ} → bound ≤ i → ◌≡◌ {A = Option ℕ} None (index_below bound i)
index-none {bound} {i} h = ap (λ (b : Bool). then_some b i) (sym ((fails_false (ltb i bound)).0 ((lt_fails i bound).1 h)))

-- so one that is there is that index
pub index-found : (bound : ℕ) {i : ℕ} (j : ℕ) → Some i ≡ index_below bound j → i ≡ j
index-found bound {i} j e = go (ltb j bound) e
  where
    go : (b : Bool) → Some i ≡ then_some b j → i ≡ j
    go true same = search rules
    go false same = search rules

-- it lies below the bound
pub index_below-bound : (bound : ℕ) {i : ℕ} (j : ℕ) → Some i ≡ index_below bound j → i < bound
index_below-bound bound {i} j e = subst (λ (k : ℕ). k < bound) (sym (index-found bound j e)) (ltb→lt j bound (holds (ltb j bound) e))
  where
    holds : (b : Bool) → Some i ≡ then_some b j → T b
    holds true same = tt
    holds false same = search rules

-- and where there is none it is the bound or more
pub index-missing : (bound j : ℕ) → ◌≡◌ {A = Option ℕ} None (index_below bound j) → bound ≤ j
index-missing bound j e = (lt_fails j bound).0 (fails (ltb j bound) e)
  where
    fails : (b : Bool) → ◌≡◌ {A = Option ℕ} None (then_some b j) → T (not b)
    fails true same = search rules
    fails false same = tt

-- what the fields that are left leave to be split, below the best index so far, is what is chosen
pub record FieldsLeft (s box : List ℕ) (frames : List Framed) (best : ℕ) : Type 0 where
  pub left : List Field
  pub framing : Framing (length box) frames left
  pub decide : chosen (fields_in s) box ≡ lowest (splittable left box) best

-- at the start all fields are left, and any index may come
pub fields_left_start : {s box : List ℕ} {frames : List Framed} → SoundInput s (length box) → frames ≡ frames_in s → FieldsLeft s box frames (length box)
unfolding chosen
fields_left_start {s} {box} sound all =
    record { left = fields_in s; framing = subst (λ (fs : List Framed). Framing (length box) fs (fields_in s)) (sym all) (frames_sound sound); decide = refl }

-- where none is left it is the best so far
pub fields_left-none : {s box : List ℕ} {frames : List Framed} {best : ℕ} → FieldsLeft s box frames best → frames ≡ [] → best ≡ chosen (fields_in s) box
unfolding some_of
fields_left-none {box = box} {best = best} going end =
    sym (going.decide ∙ ap (λ (fs : List Field). lowest (splittable fs box) best) (sym going.framing.fields ∙ ap (map as_field) end) ∙ lowest-none (splittable [] box) best none)
  where
    none : (i : ℕ) → i < best → T (splittable [] box i) → ⊥
    none i h t = ((may_split [] box i).0 t).1

-- where no room below it has two or more values it is the best so far, whatever is left
pub fields_left_narrow : {s box : List ℕ} {frames : List Framed} {best : ℕ} → FieldsLeft s box frames best → best ≤ first_wide box → best ≡ chosen (fields_in s) box
fields_left_narrow {box = box} {best = best} going below = sym (going.decide ∙ lowest-none (splittable going.left box) best none)
  where
    none : (i : ℕ) → i < best → T (splittable going.left box i) → ⊥
    none i h t =
        let two = ((may_split going.left box i).0 t).0 in
        lowest_before (wide box) (length box) i (omega arith) ((le_holds 2 (count (get_or box i 0))).1 two)

-- the lowest index that may be split because of a field or of those behind it: because of those, below the lowest because of the field
lowest-fields : (box : List ℕ) (f : Field) (fs : List Field) (best : ℕ) → lowest (splittable (f ∷ fs) box) best ≡ lowest (splittable fs box) (lowest_by box f.rule best)
unfolding some_of
lowest-fields box f fs best =
    lowest_same (splittable (f ∷ fs) box) (λ i. splits_by box f.rule i || splittable fs box i) best (λ i h. (forth i, back i))
    ∙ lowest_either (splits_by box f.rule) (splittable fs box) best
  where
    by_field : (i : ℕ) → T (splits_by box f.rule i) ↔ ((2 ≤ count (get_or box i 0)) × T (live_in_rule box (i + 1) f.rule))
    by_field i = wide-and box i (live_in_rule box (i + 1) f.rule)

    either : (i : ℕ) → T (splits_by box f.rule i || splittable fs box i) ↔ (T (splits_by box f.rule i) ⊎ T (splittable fs box i))
    either i = either_holds (splits_by box f.rule i) (splittable fs box i)

    live : (i : ℕ) → T (live_in_fields (f ∷ fs) box (i + 1)) ↔ (T (live_in_rule box (i + 1) f.rule) ⊎ T (live_in_fields fs box (i + 1)))
    live i = either_holds (live_in_rule box (i + 1) f.rule) (live_in_fields fs box (i + 1))

    forth : (i : ℕ) → T (splittable (f ∷ fs) box i) → T (splits_by box f.rule i || splittable fs box i)
    forth i t =
        let h = (may_split (f ∷ fs) box i).0 t in
        (either i).1 (⊎_map (λ l. (by_field i).1 (h.0, l)) (λ l. (may_split fs box i).1 (h.0, l)) ((live i).0 h.1))

    back : (i : ℕ) → T (splits_by box f.rule i || splittable fs box i) → T (splittable (f ∷ fs) box i)
    back i t =
        ⊎_elim (λ u. let h = (by_field i).0 u in (may_split (f ∷ fs) box i).1 (h.0, (live i).1 (inl h.1)))
        (λ u. let h = (may_split fs box i).0 u in (may_split (f ∷ fs) box i).1 (h.0, (live i).1 (inr h.1))) ((either i).0 t)

module _ {s box : List ℕ} {frames more : List Framed} {best : ℕ} {f : Framed} (going : FieldsLeft s box frames best) (next : frames ≡ f ∷ more) where
  first : Framing (length box) (f ∷ more) going.left
  first = subst (λ (fs : List Framed). Framing (length box) fs going.left) next going.framing

  -- the content of the first field is whole atoms or positions
  pub field_left-fits : FrameFits (length box) f
  field_left-fits = first.fit.0

  -- the lowest index by its rule is the best of all up to here
  pub fields_left_on : {best' : ℕ} → best' ≡ lowest_by box (rule_of f.kind (length f.content) f.content) best → FieldsLeft s box more best'
  fields_left_on {best'} e = record { left = map as_field more; framing = record { fields = refl; fit = first.fit.1 }; decide = whole }
    where
      whole : chosen (fields_in s) box ≡ lowest (splittable (map as_field more) box) best'
      whole =
          going.decide ∙ ap (λ (fs : List Field). lowest (splittable fs box) best) (sym first.fields)
          ∙ lowest-fields box (as_field f) (map as_field more) best ∙ ap (lowest (splittable (map as_field more) box)) (sym e)
