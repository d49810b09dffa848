-- The six laws of "no more than k of some positions in a set". Assumes nothing.
use mathlib.Core.Path.{◌≡◌, refl, sym, ap, ◌∙◌, subst}
use mathlib.Core.Logic.Iff
use mathlib.Core.Logic.{◌↔◌}
use mathlib.Core.List.{List, Memᴰ}
use Prim.Native.Nat.{ℕ, ◌-◌, ◌≤◌, ◌<◌}
use native.Mathlib.Decide.{ℕ_discrete, dec_lt}
use native.Mathlib.Omega.{arith}
use borrow.Author.Tests.{leb-false, lt-ltb, le-ltb, ne_eqb}
use lib.Dec.{T, eqb}
use lib.ListN.{length, get_or}
use Rattle.sets.specs.Sets.{is_member, IsMember, inside, meets, count, beside}
use Rattle.sets.proofs.Sameness.{inside_iff, inside_trans}
use Rattle.sets.proofs.Counting.{member-beside}
use Rattle.sets.proofs.Smallest.{partly-inside_two}
use Rattle.sets.proofs.Outside.{meets_of_shared, shared_of-meets, beside-inside, apart_of-beside, beside_both}
use Rattle.lists.specs.Lists.{Every}
use Rattle.lists.proofs.TestLaws.{test_true, both_hold, le_holds, eq_holds}
use Rattle.lists.proofs.ListLaws.{every_at}
use Rattle.lists.proofs.PassingLaws.{passing_more, passing-at_most, passing_back, passing_same}
use Rattle.rules.specs.Meaning.{value_at, taking}
use Rattle.rules.specs.Reading.{named}
use Rattle.rules.specs.Writing.{PositionFits}
use Rattle.rules.proofs.Reading.NamedLaws.{named_listed}
use Rattle.steps.specs.Boxes.{room_at, InBox, BoxInside, Rooms}
use Rattle.steps.specs.Shrinking.{dead, alive, inside_count, meeting_count, cut_others, look_at_most, settled_at_most, is_live_at_most}
use Rattle.steps.proofs.Boxes.BoxLaws.{in-box_at, in-box_of, in-box-length, box-inside-length, box-inside_at, box-inside_of, box-inside_refl, box-inside_trans, room_below}
use Rattle.steps.proofs.Looks.SixLaws.{Sound, Inward, Settling, Steady, Monotone, NotLive, Names}
use Rattle.steps.proofs.Looks.InTurn.{dead-not-alive, alive_once}
use Rattle.steps.proofs.Looks.CutOthers.{CutAt, kept, cut, cut-length, cut_at_lem, cut_inside}

-- the positions are 1 to v
abbrev pub AtMostFits : ℕ → List ℕ → Type 0
AtMostFits v ps = Every (PositionFits v) ps

-- p is a position of the box that is live: it is named, and its room meets the set
abbrev pub LiveAtMost : ℕ → List ℕ → List ℕ → ℕ → Type 0
LiveAtMost m ps box p = (1 ≤ p) × (p ≤ length box) × T (is_live_at_most m ps p (room_at box p))

-- a position is live exactly if it is named and its room meets the set
pub live-named : (m : ℕ) (ps : List ℕ) (p room : ℕ) → T (is_live_at_most m ps p room) ↔ (Memᴰ p ps × T (meets room m))
unfolding is_live_at_most
live-named m ps p room = Iff.trans (both_hold (named p ps) (meets room m)) (Iff.and (named_listed p ps) Iff.rfl)

-- it is settled exactly if at most k rooms meet the set
pub settled_meeting : (box : List ℕ) (k m : ℕ) (ps : List ℕ) → T (settled_at_most box k m ps) ↔ (meeting_count m ps box ≤ k)
unfolding settled_at_most
settled_meeting box k m ps = le_holds (meeting_count m ps box) k

-- ---- what a look finds

-- the look by the rooms inside the set: more than k, just k, or fewer
pub data AtMostLook (place k m : ℕ) (ps box : List ℕ) : Type 0 where
  too_many : k < inside_count m ps box → look_at_most place k m ps box ≡ dead place → AtMostLook place k m ps box
  just_enough : inside_count m ps box ≡ k → look_at_most place k m ps box ≡ alive (cut_others m ps box) → AtMostLook place k m ps box
  fewer : inside_count m ps box < k → look_at_most place k m ps box ≡ alive box → AtMostLook place k m ps box

module _ (place k m : ℕ) (ps box : List ℕ) where
  abbrev inner : ℕ
  inner = inside_count m ps box

  -- more than k rooms inside are dead
  pub look_too_many : k < inner → look_at_most place k m ps box ≡ dead place
  unfolding look_at_most
  look_too_many more = rw (lt-ltb k inner more)

  -- just k: the others are cut
  pub look_just-enough : inner ≡ k → look_at_most place k m ps box ≡ alive (cut_others m ps box)
  unfolding look_at_most
  look_just-enough e = rw (le-ltb k inner (omega arith), test_true (eqb inner k) ((eq_holds inner k).1 e))

  -- fewer: nothing changes
  pub look-fewer : inner < k → look_at_most place k m ps box ≡ alive box
  unfolding look_at_most
  look-fewer less = rw (le-ltb k inner (omega arith), ne_eqb inner k (λ e. omega arith))

  -- each look is one of these
  pub at_most_look : AtMostLook place k m ps box
  at_most_look = go (dec_lt k inner) (ℕ_discrete inner k)
    where
      go : Dec (k < inner) → Dec (inner ≡ k) → AtMostLook place k m ps box
      go (yes more) e = too_many more (look_too_many more)
      go (no most) (yes e) = just_enough e (look_just-enough e)
      go (no most) (no apart) = let less : inner < k = omega arith in fewer less (look-fewer less)

module _ (m : ℕ) (ps : List ℕ) where
  -- ---- the two counts, of a box and of one inside

  -- a room inside the set is so in a smaller box: at least as many are
  inside_count_smaller : (b c : List ℕ) → BoxInside b c → (p : ℕ) → T (inside (room_at c p) m) → T (inside (room_at b p) m)
  unfolding room_at
  inside_count_smaller b c i p = inside_trans (get_or b (p - 1) 0) (get_or c (p - 1) 0) m (box-inside_at b c (p - 1) i)

  inside_count_grows : (b c : List ℕ) → BoxInside b c → inside_count m ps c ≤ inside_count m ps b
  unfolding inside_count
  inside_count_grows b c i = passing-at_most (λ p. inside (room_at c p) m) (λ p. inside (room_at b p) m) ps (λ p t. inside_count_smaller b c i p)

  -- ---- the values of an assignment in a box

  module _ (box a : List ℕ) (fits : AtMostFits (length box) ps) (h : InBox a box) where
    -- a named position has its value in its room
    value_there : (p : ℕ) → Memᴰ p ps → IsMember (value_at a p) (room_at box p)
    unfolding room_at
    value_there p t = let fit = every_at (PositionFits (length box)) fits t in in-box_at a box (p - 1) h (omega (arith, fit.0, fit.1))

    -- so it takes a value in the set where its room lies inside
    value-inside : (p : ℕ) → Memᴰ p ps → T (inside (room_at box p) m) → T (is_member (value_at a p) m)
    value-inside p t i = (inside_iff (room_at box p) m).0 i (value_at a p) (value_there p t)

    -- and only where its room meets the set
    value-meets : (p : ℕ) → Memᴰ p ps → T (is_member (value_at a p) m) → T (meets (room_at box p) m)
    value-meets p t u = meets_of_shared (room_at box p) m (value_at a p) (value_there p t) u

  -- ---- the laws

  -- not live: two assignments of the box that agree at every live position both meet it or both do not, as equally many take a value in the set
  pub at_most-not_live : (k : ℕ) → NotLive (λ v. AtMostFits v ps) (λ a. taking a m ps ≤ k) (LiveAtMost m ps)
  at_most-not_live k box a b fits ha hb same = let e = equally in (λ h. omega arith, λ h. omega arith)
    where
      takes : (c d : List ℕ) → InBox c box → ((p : ℕ) → LiveAtMost m ps box p → value_at c p ≡ value_at d p) → (p : ℕ) → Memᴰ p ps → T (is_member (value_at c p) m) → T (is_member (value_at d p) m)
      takes c d h agree p t u =
          let fit = every_at (PositionFits (length box)) fits t in
          let live = (live-named m ps p (room_at box p)).1 (t, value-meets box c fits h p t u) in
          subst (λ (x : ℕ). T (is_member x m)) (agree p (fit.0, fit.1, live)) u

      equally : taking a m ps ≡ taking b m ps
      equally = passing_same (λ p. is_member (value_at a p) m) (λ p. is_member (value_at b p) m) ps (λ p t. (takes a b ha same p t, takes b a hb (λ q l. sym (same q l)) p t))

  module _ (k : ℕ) where
    -- settled: every assignment of a settled box meets it
    pub at_most-settled : Settling (λ v. AtMostFits v ps) (λ a. taking a m ps ≤ k) (λ box. settled_at_most box k m ps)
    unfolding meeting_count
    at_most-settled box a fits t h =
        let few = (settled_meeting box k m ps).0 t in
        let least = passing-at_most (λ p. is_member (value_at a p) m) (λ p. meets (room_at box p) m) ps (value-meets box a fits h) in
        omega arith

    module _ (place : ℕ) where
      -- sound: an assignment of the box that meets it is still in the box after the look, which is not dead
      pub at_most-sound : Sound (λ v. AtMostFits v ps) (λ a. taking a m ps ≤ k) (look_at_most place k m ps)
      unfolding inside_count room_at
      at_most-sound box a rooms fits h few = go (at_most_look place k m ps box)
        where
          least : inside_count m ps box ≤ taking a m ps
          least = passing-at_most (λ p. inside (room_at box p) m) (λ p. is_member (value_at a p) m) ps (value-inside box a fits h)

          -- where just k rooms lie inside, no other position takes a value in the set
          others : inside_count m ps box ≡ k → (p : ℕ) → Memᴰ p ps → T (is_member (value_at a p) m) → T (inside (room_at box p) m)
          others e = passing_back (λ p. inside (room_at box p) m) (λ p. is_member (value_at a p) m) ps (value-inside box a fits h) (omega arith)

          stays : inside_count m ps box ≡ k → (i : ℕ) → i < length box → CutAt m ps box i → IsMember (get_or a i 0) (get_or (cut_others m ps box) i 0)
          stays e i l (kept each f) = subst (IsMember (get_or a i 0)) (sym f) (in-box_at a box i h l)
          stays e i l (cut p t at out f) =
              subst (IsMember (get_or a i 0)) (sym f)
              ((member-beside m (get_or box i 0) (get_or a i 0) (room_below box i rooms)).1 (
                in-box_at a box i h l,
                λ u. out (subst (λ (j : ℕ). T (inside (get_or box j 0) m)) at (others e p t (subst (λ (j : ℕ). T (is_member (get_or a j 0) m)) (sym at) u))),
              ))

          go : AtMostLook place k m ps box → (box' : List ℕ) × (look_at_most place k m ps box ≡ alive box') × InBox a box'
          go (too_many more e) = absurd (omega (arith, least))
          go (just_enough e f) =
              (cut_others m ps box, f, in-box_of a (cut_others m ps box) (in-box-length a box h ∙ sym (cut-length m ps box)) (λ i l. let l' : i < length box = omega (arith, cut-length m ps box) in stays e i l' (cut_at_lem m ps box i (room_below box i rooms))))
          go (fewer less e) = (box, e, h)

      -- inside: the box after the look lies inside the box before, and no room becomes empty
      pub at_most-inside : Inward (look_at_most place k m ps)
      at_most-inside box box' rooms e = go (at_most_look place k m ps box)
        where
          Smaller : List ℕ → Type 0
          Smaller b = BoxInside b box × Rooms b

          go : AtMostLook place k m ps box → Smaller box'
          go (too_many more f) = absurd (dead-not-alive (look_at_most place k m ps box) place box' f e)
          go (just_enough n f) = subst Smaller (alive_once (look_at_most place k m ps box) (cut_others m ps box) box' f e) (cut_inside m ps box rooms)
          go (fewer less f) = subst Smaller (alive_once (look_at_most place k m ps box) box box' f e) (box-inside_refl box, rooms)

      -- a dead look names the place that it was given
      pub at_most-place : Names place (look_at_most place k m ps)
      at_most-place box p e = go (at_most_look place k m ps box)
        where
          go : AtMostLook place k m ps box → p ≡ place
          go (too_many more f) = cc
          go (just_enough n f) = cc
          go (fewer less f) = cc

      -- steady: where the look changes nothing and it is not settled, some room meets the set and does not lie inside: it has two or more values
      pub at_most_steady : Steady (λ v. AtMostFits v ps) (LiveAtMost m ps) (look_at_most place k m ps) (λ box. settled_at_most box k m ps)
      unfolding settled_at_most meeting_count inside_count room_at
      at_most_steady box rooms fits e u = go (at_most_look place k m ps box)
        where
          Found : Type 0
          Found = (p : ℕ) × LiveAtMost m ps box p × (1 ≤ p) × (p ≤ length box) × (2 ≤ count (room_at box p))

          more : k < meeting_count m ps box
          more = leb-false (meeting_count m ps box) k u

          partly : inside_count m ps box < meeting_count m ps box → (p : ℕ) × Memᴰ p ps × T (meets (room_at box p) m) × (T (inside (room_at box p) m) → ⊥)
          partly = passing_more (λ p. inside (room_at box p) m) (λ p. meets (room_at box p) m) ps

          wide : inside_count m ps box < meeting_count m ps box → Found
          wide less =
              let found = partly less in
              let p = found.0 in
              let fit = every_at (PositionFits (length box)) fits found.1 in
              let shared = shared_of-meets (room_at box p) m (room_below box (p - 1) rooms) found.2 in
              (p, (fit.0, fit.1, (live-named m ps p (room_at box p)).1 (found.1, found.2)), fit.0, fit.1, partly-inside_two (room_at box p) m shared.0 (room_below box (p - 1) rooms) shared.1 shared.2 found.3)

          -- just k inside, and nothing to cut: no other room meets the set
          none : inside_count m ps box < meeting_count m ps box → cut_others m ps box ≡ box → ⊥
          none less same = let found = partly less in at found.0 found.1 found.2 found.3 (cut_at_lem m ps box (found.0 - 1) (room_below box (found.0 - 1) rooms))
            where
              at : (p : ℕ) → Memᴰ p ps → T (meets (room_at box p) m) → (T (inside (room_at box p) m) → ⊥) → CutAt m ps box (p - 1) → ⊥
              at p t met out (kept each f) = out (each p t refl)
              at p t met out (cut q s is off f) = apart_of-beside m (get_or box (p - 1) 0) (room_below box (p - 1) rooms) (sym f ∙ ap (λ (b : List ℕ). get_or b (p - 1) 0) same) met

          go : AtMostLook place k m ps box → Found
          go (too_many n f) = absurd (dead-not-alive (look_at_most place k m ps box) place box f e)
          go (just_enough n f) = absurd (none (omega (arith, more)) (alive_once (look_at_most place k m ps box) (cut_others m ps box) box f e))
          go (fewer less f) = wide (omega (arith, more))

      -- monotone: a smaller box gives a smaller result, and where the larger is dead so is the smaller
      pub at_most_monotone : Monotone (look_at_most place k m ps)
      unfolding inside_count room_at
      at_most_monotone b c b' hb hc i e = go (at_most_look place k m ps b) (at_most_look place k m ps c)
        where
          grows : inside_count m ps c ≤ inside_count m ps b
          grows = inside_count_grows b c i

          -- equally many inside: the same rooms are cut in both
          back : inside_count m ps b ≤ inside_count m ps c → (p : ℕ) → Memᴰ p ps → T (inside (room_at b p) m) → T (inside (room_at c p) m)
          back = passing_back (λ p. inside (room_at c p) m) (λ p. inside (room_at b p) m) ps (λ p t. inside_count_smaller b c i p)

          below : (j : ℕ) → T (inside (get_or b j 0) (get_or c j 0))
          below j = box-inside_at b c j i

          cut_both : inside_count m ps b ≤ inside_count m ps c → (j : ℕ) → CutAt m ps b j → CutAt m ps c j → T (inside (get_or (cut_others m ps b) j 0) (get_or (cut_others m ps c) j 0))
          cut_both same j (kept each f) (kept also g) = rw (f, g) (below j)
          cut_both same j (kept each f) (cut p t at out g) =
              absurd (out (subst (λ (x : ℕ). T (inside (get_or c x 0) m)) at (back same p t (subst (λ (x : ℕ). T (inside (get_or b x 0) m)) (sym at) (each p t at)))))
          cut_both same j (cut p t at out f) (kept also g) =
              rw (f, g) (inside_trans (beside m (get_or b j 0)) (get_or b j 0) (get_or c j 0) (beside-inside m (get_or b j 0) (room_below b j hb)) (below j))
          cut_both same j (cut p t at out f) (cut q s is off g) = rw (f, g) (beside_both m (get_or b j 0) (get_or c j 0) (room_below b j hb) (room_below c j hc) (below j))

          cuts : inside_count m ps b ≤ inside_count m ps c → BoxInside (cut_others m ps b) (cut_others m ps c)
          cuts same =
              box-inside_of (cut_others m ps b) (cut_others m ps c) (cut-length m ps b ∙ box-inside-length b c i ∙ sym (cut-length m ps c))
              (λ j l. cut_both same j (cut_at_lem m ps b j (room_below b j hb)) (cut_at_lem m ps c j (room_below c j hc)))

          Result : Type 0
          Result = (c' : List ℕ) × (look_at_most place k m ps c ≡ alive c') × BoxInside b' c'

          go : AtMostLook place k m ps b → AtMostLook place k m ps c → Result
          go (too_many more f) found = absurd (dead-not-alive (look_at_most place k m ps b) place b' f e)
          go (just_enough n f) (too_many more g) = absurd (omega (arith, grows))
          go (just_enough n f) (just_enough n' g) =
              (cut_others m ps c, g, subst (λ (d : List ℕ). BoxInside d (cut_others m ps c)) (alive_once (look_at_most place k m ps b) (cut_others m ps b) b' f e) (cuts (omega arith)))
          go (just_enough n f) (fewer less g) = (c, g, box-inside_trans b' b c (at_most-inside b b' hb e).0 i)
          go (fewer less f) (too_many more g) = absurd (omega (arith, grows))
          go (fewer less f) (just_enough n g) = absurd (omega (arith, grows))
          go (fewer less f) (fewer less' g) = (c, g, box-inside_trans b' b c (at_most-inside b b' hb e).0 i)
