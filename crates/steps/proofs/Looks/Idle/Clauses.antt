-- A clause that is settled stays so and its look changes nothing (`settled_look`); and in two boxes that differ at idle positions alone a clause is looked at
-- and settled in the same way. Assumes nothing.
use mathlib.Core.Path.{◌≡◌, refl, sym, ap, ◌∙◌, subst}
use mathlib.Core.Logic.{◌⊎◌, inl, inr}
use mathlib.Core.Bool.{Bool, true, false}
use mathlib.Core.List.{List, Memᴰ}
use Prim.Native.Nat.{ℕ, ◌-◌, ◌≤◌}
use native.Mathlib.Omega.{arith}
use lib.Dec.{T}
use lib.ListN.{length, set}
use lib.Seq.{set-get_or}
use Rattle.sets.specs.Sets.{inside, common, smallest}
use Rattle.sets.proofs.Sameness.{inside_iff, inside_trans, common_of-inside}
use Rattle.sets.proofs.Smallest.{smallest-member}
use Rattle.lists.proofs.TestLaws.{test_same, test_cases, true_test}
use Rattle.lists.proofs.ListLaws.{some_of_listed, listed_of_some, some_map}
use Rattle.rules.specs.declared.field.Atom.{Atom}
use Rattle.steps.specs.Boxes.{room_at, with_room, BoxInside, Rooms}
use Rattle.steps.specs.Shrinking.{alive, united, is_live, cut, look_clause, settled_clause}
use Rattle.steps.proofs.Boxes.BoxLaws.{box-inside-length, box-inside_at, rooms_at}
use Rattle.steps.proofs.Looks.LiveLaws.{live_of_shared}
use Rattle.steps.proofs.Looks.ClauseLaws.{ClauseFits, LiveIn, ClauseLook, none_live, one_live, more_live, clause_look}
use Rattle.steps.proofs.Looks.ClauseLaws.{ShowsSettled, settled_some, fits-position, live_larger}
use Rattle.rules.specs.Parts.{one_of}
use Rattle.steps.proofs.Looks.RuleLaws.{LiveUnsettled}
use Rattle.steps.proofs.Looks.Idle.ButForIdle.{SameWay, SameLooks, both-dead, both-alive, same_way_stay, same_way-set}
use Rattle.steps.proofs.Looks.Idle.ButForIdle.{StaysIdle, StaysLive, SameSettled, LooksSame}

module _ (atoms : List Atom) where
  -- ---- a clause that is settled

  -- it is settled in every smaller box
  stays-settled : (b c : List ℕ) → BoxInside c b → T (settled_clause b atoms) → T (settled_clause c atoms)
  unfolding settled_clause room_at
  stays-settled b c i t =
      (settled_some atoms atoms c).1
      (some_map (λ a. ShowsSettled atoms b a.position) (λ a. ShowsSettled atoms c a.position) atoms
      (λ a. inside_trans (room_at c a.position) (room_at b a.position) (united a.position atoms) (box-inside_at c b (a.position - 1) i))
      ((settled_some atoms atoms b).0 t))

  -- a room that is not empty and lies inside its union meets it: the atom that shows the clause settled has a live position
  settling_live : (box : List ℕ) → Rooms box → ClauseFits (length box) atoms → T (settled_clause box atoms)
      → (a : Atom) × Memᴰ a atoms × LiveIn atoms box a.position × ShowsSettled atoms box a.position
  unfolding settled_clause room_at
  settling_live box rooms fits t =
      let found = listed_of_some (λ a. ShowsSettled atoms box a.position) atoms ((settled_some atoms atoms box).0 t) in
      let p = found.0.position in
      let fit = fits-position (length box) atoms fits found.1 in
      let room = rooms_at box (p - 1) rooms (omega (arith, fit.0, fit.1)) in
      let some = smallest-member (room_at box p) room.0 room.1 in
      let shared = (inside_iff (room_at box p) (united p atoms)).0 found.2 (smallest (room_at box p)) some in
      (found.0, found.1, (fit.0, fit.1, live_of_shared atoms p (room_at box p) (smallest (room_at box p)) some shared), found.2)

  -- a look at it changes nothing: where one position alone is live, that one shows it settled
  pub settled_look : (place : ℕ) (box : List ℕ) → Rooms box → ClauseFits (length box) atoms → T (settled_clause box atoms) → look_clause place atoms box ≡ alive box
  unfolding cut with_room room_at
  settled_look place box rooms fits t = go (settling_live box rooms fits t) (clause_look place atoms box)
    where
      go : ((a : Atom) × Memᴰ a atoms × LiveIn atoms box a.position × ShowsSettled atoms box a.position) → ClauseLook place atoms box
          → look_clause place atoms box ≡ alive box
      go (a, named, live, shown) (none_live dull e) = absurd (dull a.position live)
      go (a, named, live, shown) (one_live p there only e) =
          let here = subst (ShowsSettled atoms box) (only a.position live) shown in
          e ∙ ap alive (ap (set box (p - 1)) (common_of-inside (room_at box p) (united p atoms) here) ∙ set-get_or box (p - 1) 0)
      go (a, named, live, shown) (more_live p q there also l e) = e

  -- ---- the laws

  -- idle positions stay idle
  pub clause_stays_idle : StaysIdle (LiveUnsettled (one_of atoms))
  clause_stays_idle b c p rooms i live =
      (test_same (settled_clause b atoms) false (λ t. subst T live.0 (stays-settled b c i t)) absurd, live_larger atoms c b p rooms i live.1)

  -- the clause is settled in both boxes or in neither: the room that shows it is that of a live position
  pub clause_same-settled : SameSettled (λ v. ClauseFits v atoms) (LiveUnsettled (one_of atoms)) (λ box. settled_clause box atoms)
  unfolding settled_clause
  clause_same-settled b c fits h =
      test_same (settled_clause b atoms) (settled_clause c atoms) (stays-settled b c h.inside) (λ t. back t (test_cases (settled_clause b atoms)))
    where
      back : T (settled_clause c atoms) → T (settled_clause b atoms) ⊎ (T (settled_clause b atoms) → ⊥) → T (settled_clause b atoms)
      back t (inl s) = s
      back t (inr u) =
          let fit = subst (λ (v : ℕ). ClauseFits v atoms) (sym (box-inside-length c b h.inside)) fits in
          let found = settling_live c h.smaller fit t in
          let p = found.0.position in
          let live = live_larger atoms c b p h.smaller h.inside found.2 in
          let room = h.same p (test_same (settled_clause b atoms) false u absurd, live) in
          let shown = subst (λ (r : ℕ). T (inside r (united p atoms))) (sym room) found.3 in
          (settled_some atoms atoms b).1 (some_of_listed (λ a. ShowsSettled atoms b a.position) found.1 shown)

  -- what is live in the larger is live in the smaller
  pub clause_stays_live : StaysLive (λ v. ClauseFits v atoms) (LiveUnsettled (one_of atoms))
  clause_stays_live b c fits h p live =
      let high : p ≤ length c = omega (arith, live.1.1, box-inside-length c b h.inside) in
      let there = subst (λ (r : ℕ). T (is_live atoms p r)) (h.same p live) live.1.2 in
      (sym (clause_same-settled b c fits h) ∙ live.0, (live.1.0, high, there))

  -- looks at both find the same
  pub clause-looks_same : (place : ℕ) → LooksSame (λ v. ClauseFits v atoms) (LiveUnsettled (one_of atoms)) (look_clause place atoms)
  unfolding cut with_room room_at
  clause-looks_same place b c fits h = go (settled_clause b atoms) refl
    where
      fit : ClauseFits (length c) atoms
      fit = subst (λ (v : ℕ). ClauseFits v atoms) (sym (box-inside-length c b h.inside)) fits

      larger : (p : ℕ) → LiveIn atoms c p → LiveIn atoms b p
      larger p = live_larger atoms c b p h.smaller h.inside

      cut_same : (p : ℕ) → settled_clause b atoms ≡ false → LiveIn atoms b p → LiveIn atoms c p → SameWay b c (cut atoms p b) (cut atoms p c)
      cut_same p u hb hc =
          let room = h.same p (u, hb) in
          same_way-set b c (p - 1) (common (room_at b p) (united p atoms)) (common (room_at c p) (united p atoms))
          (omega (arith, hb.0, hb.1)) (omega (arith, hc.0, hc.1)) room (ap (λ (r : ℕ). common r (united p atoms)) room)

      unsettled : settled_clause b atoms ≡ false → ((p : ℕ) → LiveIn atoms b p → LiveIn atoms c p) → ClauseLook place atoms b → ClauseLook place atoms c
          → SameLooks b c (look_clause place atoms b) (look_clause place atoms c)
      unsettled u smaller (none_live dull e) (none_live too f) = both-dead place e f
      unsettled u smaller (none_live dull e) (one_live p there only f) = absurd (dull p (larger p there))
      unsettled u smaller (none_live dull e) (more_live p q there also l f) = absurd (dull p (larger p there))
      unsettled u smaller (one_live p there only e) (none_live dull f) = absurd (dull p (smaller p there))
      unsettled u smaller (one_live p there only e) (one_live q at sole f) =
          let one : q ≡ p = only q (larger q at) in
          both-alive (cut atoms p b) (cut atoms p c) e (f ∙ ap (λ (r : ℕ). alive (cut atoms r c)) one) (cut_same p u there (smaller p there))
      unsettled u smaller (one_live p there only e) (more_live q r at also l f) = absurd (omega (arith, only q (larger q at), only r (larger r also)))
      unsettled u smaller (more_live p q there also l e) (none_live dull f) = absurd (dull p (smaller p there))
      unsettled u smaller (more_live p q there also l e) (one_live r at only f) = absurd (omega (arith, only p (smaller p there), only q (smaller q also)))
      unsettled u smaller (more_live p q there also l e) (more_live r s at too m f) = both-alive b c e f (same_way_stay b c)

      go : (t : Bool) → settled_clause b atoms ≡ t → SameLooks b c (look_clause place atoms b) (look_clause place atoms c)
      go true e =
          let t = true_test (settled_clause b atoms) e in
          both-alive b c (settled_look place b h.larger fits t) (settled_look place c h.smaller fit (stays-settled b c h.inside t)) (same_way_stay b c)
      go false u = unsettled u (λ p live. (clause_stays_live b c fits h p (u, live)).1) (clause_look place atoms b) (clause_look place atoms c)
