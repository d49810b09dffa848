-- "No more than k of some positions in a set" that is settled: its look changes nothing (`at_most-settled_look`); and in two boxes that differ at idle positions alone it is
-- looked at and settled in the same way. Assumes nothing.
use mathlib.Core.Path.{◌≡◌, refl, sym, ap, ◌∙◌, subst}
use mathlib.Core.Logic.{◌⊎◌, inl, inr, ⊎_elim}
use mathlib.Core.Bool.{Bool, true, false}
use mathlib.Core.List.{List, Memᴰ}
use Prim.Native.Nat.{ℕ, ◌-◌, ◌≤◌}
use native.Mathlib.Omega.{arith}
use lib.Dec.{T, leb}
use lib.ListN.{length, get_or}
use lib.Seq.{ext_get_or}
use Rattle.sets.specs.Sets.{inside, meets, beside}
use Rattle.sets.proofs.Outside.{inside-meets, meets_larger, beside_apart}
use Rattle.lists.proofs.TestLaws.{test_same, test_cases, true_test}
use Rattle.lists.proofs.ListLaws.{every_at}
use Rattle.lists.proofs.PassingLaws.{passing-at_most, passing_back, passing_same}
use Rattle.rules.specs.Parts.{no_more_than}
use Rattle.rules.specs.Writing.{PositionFits}
use Rattle.steps.specs.Boxes.{room_at, BoxInside, Rooms}
use Rattle.steps.specs.Shrinking.{alive, inside_count, meeting_count, cut_others, look_at_most, settled_at_most, is_live_at_most}
use Rattle.steps.proofs.Boxes.BoxLaws.{box-inside-length, box-inside_at, rooms_at, room_below}
use Rattle.steps.proofs.Looks.AtMostLaws.{AtMostFits, live-named, settled_meeting, AtMostLook, too_many, just_enough, fewer, at_most_look}
use Rattle.steps.proofs.Looks.CutOthers.{CutAt, kept, cut, cut-length, cut_at_lem}
use Rattle.steps.proofs.Looks.RuleLaws.{LiveUnsettled}
use Rattle.steps.proofs.Looks.Idle.ButForIdle.{ButForIdle, SameStep, neither, both, SameLooks, both-dead, both-alive, same_way_stay}
use Rattle.steps.proofs.Looks.Idle.ButForIdle.{StaysIdle, StaysLive, SameSettled, LooksSame}

module _ (m : ℕ) (ps : List ℕ) where
  -- ---- rooms that meet the set

  -- in a smaller box no room meets it that did not
  meets_before : (b c : List ℕ) → Rooms c → BoxInside c b → (p : ℕ) → T (meets (room_at c p) m) → T (meets (room_at b p) m)
  unfolding room_at
  meets_before b c rooms i p = meets_larger (get_or c (p - 1) 0) (get_or b (p - 1) 0) m (room_below c (p - 1) rooms) (box-inside_at c b (p - 1) i)

  -- so no more do
  meeting_falls : (b c : List ℕ) → Rooms c → BoxInside c b → meeting_count m ps c ≤ meeting_count m ps b
  unfolding meeting_count
  meeting_falls b c rooms i = passing-at_most (λ p. meets (room_at c p) m) (λ p. meets (room_at b p) m) ps (λ p t. meets_before b c rooms i p)

  -- the room of a named position that lies inside meets it, since it is not empty
  inside-named : (box : List ℕ) → Rooms box → AtMostFits (length box) ps → (p : ℕ) → Memᴰ p ps → T (inside (room_at box p) m) → T (meets (room_at box p) m)
  unfolding room_at
  inside-named box rooms fits p t i =
      let fit = every_at (PositionFits (length box)) fits t in
      let room = rooms_at box (p - 1) rooms (omega (arith, fit.0, fit.1)) in
      inside-meets (get_or box (p - 1) 0) m room.0 room.1 i

  module _ (k : ℕ) where
    -- ---- settled

    -- it is settled in every smaller box
    stays-settled : (b c : List ℕ) → Rooms c → BoxInside c b → T (settled_at_most b k m ps) → T (settled_at_most c k m ps)
    stays-settled b c rooms i t = (settled_meeting c k m ps).1 (omega (arith, meeting_falls b c rooms i, (settled_meeting b k m ps).0 t))

    -- a look at it changes nothing: no more than k rooms meet the set, so where just k lie inside no other meets it
    at_most-settled_look : (place : ℕ) (box : List ℕ) → Rooms box → AtMostFits (length box) ps → T (settled_at_most box k m ps) → look_at_most place k m ps box ≡ alive box
    unfolding meeting_count inside_count room_at
    at_most-settled_look place box rooms fits t = go (at_most_look place k m ps box)
      where
        few : meeting_count m ps box ≤ k
        few = (settled_meeting box k m ps).0 t

        least : inside_count m ps box ≤ meeting_count m ps box
        least = passing-at_most (λ p. inside (room_at box p) m) (λ p. meets (room_at box p) m) ps (inside-named box rooms fits)

        all : inside_count m ps box ≡ k → (p : ℕ) → Memᴰ p ps → T (meets (room_at box p) m) → T (inside (room_at box p) m)
        all e = passing_back (λ p. inside (room_at box p) m) (λ p. meets (room_at box p) m) ps (inside-named box rooms fits) (omega (arith, few))

        same : inside_count m ps box ≡ k → (i : ℕ) → CutAt m ps box i → get_or (cut_others m ps box) i 0 ≡ get_or box i 0
        same e i (kept each f) = f
        same e i (cut p t at out f) =
            f ∙ beside_apart m (get_or box i 0) (room_below box i rooms)
            (λ u. out (subst (λ (j : ℕ). T (inside (get_or box j 0) m)) at (all e p t (subst (λ (j : ℕ). T (meets (get_or box j 0) m)) (sym at) u))))

        go : AtMostLook place k m ps box → look_at_most place k m ps box ≡ alive box
        go (too_many more e) = absurd (omega (arith, few, least))
        go (just_enough e f) = f ∙ ap alive (ext_get_or 0 (cut_others m ps box) box (cut-length m ps box) (λ i l. same e i (cut_at_lem m ps box i (room_below box i rooms))))
        go (fewer less e) = e

    -- ---- the laws

    -- idle positions stay idle
    pub at_most_stays_idle : StaysIdle (LiveUnsettled (no_more_than k m ps))
    at_most_stays_idle b c p rooms i live =
        let there = (live-named m ps p (room_at c p)).0 live.1.2 in (
          test_same (settled_at_most b k m ps) false (λ t. subst T live.0 (stays-settled b c rooms i t)) absurd,
          (live.1.0, omega (arith, live.1.1, box-inside-length c b i), (live-named m ps p (room_at b p)).1 (there.0, meets_before b c rooms i p there.1)),
        )

    module _ (b c : List ℕ) (fits : AtMostFits (length b) ps) (h : ButForIdle (LiveUnsettled (no_more_than k m ps)) b c) where
      -- where it is not settled, a named position whose room meets the set has the same room in both boxes
      same_room : settled_at_most b k m ps ≡ false → (p : ℕ) → Memᴰ p ps → T (meets (room_at b p) m) → room_at b p ≡ room_at c p
      same_room u p t met = let fit = every_at (PositionFits (length b)) fits t in h.same p (u, (fit.0, fit.1, (live-named m ps p (room_at b p)).1 (t, met)))

      -- so as many rooms meet it
      same_meeting : settled_at_most b k m ps ≡ false → meeting_count m ps b ≡ meeting_count m ps c
      unfolding meeting_count
      same_meeting u =
          passing_same (λ p. meets (room_at b p) m) (λ p. meets (room_at c p) m) ps
          (λ p t. (λ met. subst (λ (room : ℕ). T (meets room m)) (same_room u p t met) met, meets_before b c h.smaller h.inside p))

      -- the same rooms lie inside
      same-inside : settled_at_most b k m ps ≡ false → (p : ℕ) → Memᴰ p ps → (T (inside (room_at b p) m) → T (inside (room_at c p) m)) × (T (inside (room_at c p) m) → T (inside (room_at b p) m))
      same-inside u p t = (
        λ i. subst (λ (room : ℕ). T (inside room m)) (same_room u p t (inside-named b h.larger fits p t i)) i,
        λ i. subst (λ (room : ℕ). T (inside room m)) (sym (same_room u p t (meets_before b c h.smaller h.inside p (inside-named c h.smaller fit p t i)))) i,
      )
        where
          fit : AtMostFits (length c) ps
          fit = subst (λ (v : ℕ). AtMostFits v ps) (sym (box-inside-length c b h.inside)) fits

    -- it is settled in both boxes or in neither
    pub at_most_same-settled : SameSettled (λ v. AtMostFits v ps) (LiveUnsettled (no_more_than k m ps)) (λ box. settled_at_most box k m ps)
    unfolding settled_at_most
    at_most_same-settled b c fits h =
        test_same (settled_at_most b k m ps) (settled_at_most c k m ps) (stays-settled b c h.smaller h.inside) (λ t. back t (test_cases (settled_at_most b k m ps)))
      where
        back : T (settled_at_most c k m ps) → T (settled_at_most b k m ps) ⊎ (T (settled_at_most b k m ps) → ⊥) → T (settled_at_most b k m ps)
        back t (inl s) = s
        back t (inr u) = subst (λ (n : ℕ). T (leb n k)) (sym (same_meeting b c fits h (test_same (settled_at_most b k m ps) false u absurd))) t

    -- what is live in the larger is live in the smaller
    pub at_most_stays_live : StaysLive (λ v. AtMostFits v ps) (LiveUnsettled (no_more_than k m ps))
    at_most_stays_live b c fits h p live =
        let high : p ≤ length c = omega (arith, live.1.1, box-inside-length c b h.inside) in
        let there = subst (λ (room : ℕ). T (is_live_at_most m ps p room)) (h.same p live) live.1.2 in
        (sym (at_most_same-settled b c fits h) ∙ live.0, (live.1.0, high, there))

    -- looks at both find the same
    pub at_most-looks_same : (place : ℕ) → LooksSame (λ v. AtMostFits v ps) (LiveUnsettled (no_more_than k m ps)) (look_at_most place k m ps)
    unfolding inside_count room_at
    at_most-looks_same place b c fits h = go (settled_at_most b k m ps) refl
      where
        fit : AtMostFits (length c) ps
        fit = subst (λ (v : ℕ). AtMostFits v ps) (sym (box-inside-length c b h.inside)) fits

        -- a room that is cut in one box is cut in the other in the same way: it is the same room, or neither meets the set
        step : settled_at_most b k m ps ≡ false → (i : ℕ) → CutAt m ps b i → CutAt m ps c i → SameStep (get_or b i 0) (get_or c i 0) (get_or (cut_others m ps b) i 0) (get_or (cut_others m ps c) i 0)
        step u i (kept each e) (kept also f) = neither (sym e) (sym f)
        step u i (kept each e) (cut p t at out f) =
            absurd (out (subst (λ (j : ℕ). T (inside (get_or c j 0) m)) at ((same-inside b c fits h u p t).0 (subst (λ (j : ℕ). T (inside (get_or b j 0) m)) (sym at) (each p t at)))))
        step u i (cut p t at out e) (kept also f) =
            absurd (out (subst (λ (j : ℕ). T (inside (get_or b j 0) m)) at ((same-inside b c fits h u p t).1 (subst (λ (j : ℕ). T (inside (get_or c j 0) m)) (sym at) (also p t at)))))
        step u i (cut p t at out e) (cut q s is off f) = ⊎_elim met apart (test_cases (meets (get_or b i 0) m))
          where
            Step : Type 0
            Step = SameStep (get_or b i 0) (get_or c i 0) (get_or (cut_others m ps b) i 0) (get_or (cut_others m ps c) i 0)

            met : T (meets (get_or b i 0) m) → Step
            met o =
                let room = subst (λ (j : ℕ). get_or b j 0 ≡ get_or c j 0) at (same_room b c fits h u p t (subst (λ (j : ℕ). T (meets (get_or b j 0) m)) (sym at) o)) in
                both room (e ∙ ap (beside m) room ∙ sym f)

            apart : (T (meets (get_or b i 0) m) → ⊥) → Step
            apart o =
                neither (sym (e ∙ beside_apart m (get_or b i 0) (room_below b i h.larger) o))
                (sym (f ∙ beside_apart m (get_or c i 0) (room_below c i h.smaller) (λ o'. o (meets_larger (get_or c i 0) (get_or b i 0) m (room_below c i h.smaller) (box-inside_at c b i h.inside) o'))))

        unsettled : settled_at_most b k m ps ≡ false → inside_count m ps b ≡ inside_count m ps c → AtMostLook place k m ps b → AtMostLook place k m ps c
            → SameLooks b c (look_at_most place k m ps b) (look_at_most place k m ps c)
        unsettled u n (too_many more e) (too_many more' f) = both-dead place e f
        unsettled u n (too_many more e) (just_enough o f) = absurd (omega arith)
        unsettled u n (too_many more e) (fewer less f) = absurd (omega arith)
        unsettled u n (just_enough o e) (too_many more f) = absurd (omega arith)
        unsettled u n (just_enough o e) (just_enough o' f) =
            both-alive (cut_others m ps b) (cut_others m ps c) e f (λ i. step u i (cut_at_lem m ps b i (room_below b i h.larger)) (cut_at_lem m ps c i (room_below c i h.smaller)))
        unsettled u n (just_enough o e) (fewer less f) = absurd (omega arith)
        unsettled u n (fewer less e) (too_many more f) = absurd (omega arith)
        unsettled u n (fewer less e) (just_enough o f) = absurd (omega arith)
        unsettled u n (fewer less e) (fewer less' f) = both-alive b c e f (same_way_stay b c)

        go : (t : Bool) → settled_at_most b k m ps ≡ t → SameLooks b c (look_at_most place k m ps b) (look_at_most place k m ps c)
        go true e =
            let t = true_test (settled_at_most b k m ps) e in
            both-alive b c (at_most-settled_look place b h.larger fits t) (at_most-settled_look place c h.smaller fit (stays-settled b c h.smaller h.inside t)) (same_way_stay b c)
        go false u =
            unsettled u (passing_same (λ p. inside (room_at b p) m) (λ p. inside (room_at c p) m) ps (same-inside b c fits h u)) (at_most_look place k m ps b) (at_most_look place k m ps c)
