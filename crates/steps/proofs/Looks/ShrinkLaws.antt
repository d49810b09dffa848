-- Laws of rounds and of shrinking, from the laws of a rule. Assumes nothing.
use mathlib.Core.Path.{◌≡◌, refl, sym, ap, ◌∙◌, subst}
use mathlib.Core.Bool.{Bool, true, false}
use mathlib.Core.List.{List}
use Prim.Native.Nat.{ℕ, zero, suc, ◌<◌}
use native.Mathlib.Omega.{arith}
use lib.Dec.{T}
use Rattle.lists.proofs.TestLaws.{true_test}
use Rattle.lists.specs.Lists.{Some, Every}
use Rattle.rules.specs.Rules.{Field}
use Rattle.rules.specs.Meaning.{Meets, MeetsFields}
use Rattle.steps.specs.Boxes.{open_values, InBox, BoxInside, Rooms}
use Rattle.steps.specs.Shrinking.{Look, dead, alive, look_rule, look_field, round, same_rooms, shrink, shrunk, settled_rule, settled}
use Rattle.steps.specs.Rounds.{Rounds, died, rested, went, count_rounds, rounds_of}
use Rattle.steps.proofs.Boxes.BoxLaws.{in-box-length, box-inside_refl, box-inside_trans, same_rooms_iff}
use Rattle.steps.proofs.Boxes.BoxSizes.{open_falls}
use Rattle.steps.proofs.Looks.SixLaws.{Sound, Inward, Settling, Steady, Monotone, NotLive}
use Rattle.steps.proofs.Looks.InTurn.{Keeps, Spares, dead-not-alive, inward-from, in_turn-sound, in_turn_inward, in_turn_fixed}
use Rattle.steps.proofs.Looks.InTurn.{all_settled, in_turn_steady, in_turn_monotone, all-not_live}
use Rattle.steps.proofs.Looks.FittingRules.{Fits, FieldsFit}
use Rattle.steps.proofs.Looks.RuleLaws.{LiveInRule, rule-sound, rule-inside, rule-settled, rule_steady, rule_monotone, rule-not_live}

-- p is a position of the box that is live in some part of a field that is not settled
abbrev pub LiveInFields : List Field → List ℕ → ℕ → Type 0
LiveInFields fields box p = Some (λ f. LiveInRule f.rule box p) fields

module _ (fields : List Field) where
  -- ---- a round

  -- sound: an assignment of the box that meets all rules is still in the box after a round, which is not dead
  round-sound : Sound (λ v. FieldsFit v fields) (λ a. MeetsFields a fields) (round fields)
  round-sound =
      in_turn-sound (λ v f. Fits v f.rule) (λ a f. Meets a f.rule) look_field (λ f. rule-inside f.place f.rule) (λ f. rule-sound f.place f.rule) fields

  -- inside: the box after a round lies inside the box before, and no room becomes empty
  pub round-inside : Inward (round fields)
  round-inside = in_turn_inward look_field (λ f. rule-inside f.place f.rule) fields

  -- steady: where a round changes nothing and the box is not settled, a position live in a part that is not settled has two or more values
  pub round_steady : Steady (λ v. FieldsFit v fields) (LiveInFields fields) (round fields) (settled fields)
  round_steady =
      in_turn_steady (λ v f. Fits v f.rule) (λ f. LiveInRule f.rule) look_field (λ box f. settled_rule box f.rule) (λ f. rule-inside f.place f.rule)
      (λ f. rule_steady f.place f.rule) fields

  -- monotone: a smaller box gives a smaller result, and where the larger is dead so is the smaller
  round_monotone : Monotone (round fields)
  round_monotone = in_turn_monotone look_field (λ f. rule-inside f.place f.rule) (λ f. rule_monotone f.place f.rule) fields

  -- where a round changes nothing, no look at a field does
  pub fixed_each : (box : List ℕ) → Rooms box → round fields box ≡ alive box → Every (λ f. look_rule f.place f.rule box ≡ alive box) fields
  fixed_each = in_turn_fixed look_field (λ f. rule-inside f.place f.rule) fields

  -- ---- rounds that come to an end

  -- what a round keeps, rounds keep
  rounds_keep : (Q : List ℕ → Type 0) → Keeps Q (round fields) → {l : Look} {k : ℕ} {box : List ℕ} → Rounds fields l k box → (c : List ℕ) → l ≡ alive c → Q box → Q c
  rounds_keep Q each {l} (died p r e) c a q = absurd (dead-not-alive l p c e a)
  rounds_keep Q each (rested {box} r e) c a q = let same : box ≡ c = cc in subst Q same q
  rounds_keep Q each (went {box} {box'} r ne more) c a q = rounds_keep Q each more c a (each box box' q r)

  -- what a round spares, rounds spare
  rounds_spare : (Q : List ℕ → Type 0) → Spares Q (round fields) → {l : Look} {k : ℕ} {box : List ℕ} → Rounds fields l k box → Q box
      → (box' : List ℕ) × (l ≡ alive box') × Q box'
  rounds_spare Q each (died {box} p r e) q = let found = each box q in absurd (dead-not-alive (round fields box) p found.0 r found.1)
  rounds_spare Q each (rested {box} r e) q = (box, e, q)
  rounds_spare Q each (went {box} {box'} r ne more) q =
      let found = each box q in
      let same : found.0 ≡ box' = cc found.1 in
      rounds_spare Q each more (subst Q same found.2)

  -- where rounds end, one more changes nothing
  rounds_fixed : {l : Look} {k : ℕ} {box : List ℕ} → Rounds fields l k box → (c : List ℕ) → l ≡ alive c → round fields c ≡ alive c
  rounds_fixed {l} (died p r e) c a = absurd (dead-not-alive l p c e a)
  rounds_fixed (rested {box} r e) c a = let same : box ≡ c = cc in subst (λ (b : List ℕ). round fields b ≡ alive b) same r
  rounds_fixed (went r ne more) c a = rounds_fixed more c a

  -- rounds come to one end, and there is one number of them
  pub rounds_once : {l m : Look} {k j : ℕ} {box : List ℕ} → Rounds fields l k box → Rounds fields m j box → (l ≡ m) × (k ≡ j)
  rounds_once (died p r e) (died q s d) = (cc, refl)
  rounds_once (died p r e) (rested {box} s d) = absurd (dead-not-alive (round fields box) p box r s)
  rounds_once (died {box} p r e) (went {box'} s ne more) = absurd (dead-not-alive (round fields box) p box' r s)
  rounds_once (rested r e) (died {box} q s d) = absurd (dead-not-alive (round fields box) q box s r)
  rounds_once (rested r e) (rested s d) = (cc, refl)
  rounds_once (rested {box} r e) (went {box'} s ne more) = let same : box' ≡ box = cc in absurd (ne same)
  rounds_once (went {box} {box'} r ne more) (died q s d) = absurd (dead-not-alive (round fields box) q box' s r)
  rounds_once (went {box} {box'} r ne more) (rested s d) = let same : box' ≡ box = cc in absurd (ne same)
  rounds_once {l} {m} (went {box' = b} r ne more) (went {box' = c} {k = j} s too rest) =
      let same : c ≡ b = cc in
      let once = rounds_once more (subst (Rounds fields m j) same rest) in
      (once.0, ap suc once.1)

  -- ---- shrinking

  -- shrinking is rounds that come to an end, as many as are counted, since each but the last takes an open value away
  shrink-rounds : (k : ℕ) (box : List ℕ) → Rooms box → open_values box < k → Rounds fields (shrink k fields box) (count_rounds k fields box) box
  unfolding shrink count_rounds
  shrink-rounds zero box rooms h = absurd (omega arith)
  shrink-rounds (suc k) box rooms h = go (shrink-rounds k) (round fields box) refl
    where
      same : ((b : List ℕ) → Rooms b → open_values b < k → Rounds fields (shrink k fields b) (count_rounds k fields b) b) → (box' : List ℕ) → round fields box ≡ alive box'
          → (b : Bool) → same_rooms box' box ≡ b → Rounds fields (shrink (suc k) fields box) (count_rounds (suc k) fields box) box
      same rest box' e true t = let eq = (same_rooms_iff box' box).0 (true_test (same_rooms box' box) t) in rw (e, t) (rested (e ∙ ap alive eq) (ap alive eq))
      same rest box' e false t =
          let ne : box' ≡ box → ⊥ = λ eq. subst T t ((same_rooms_iff box' box).1 eq) in
          let i = round-inside box box' rooms e in
          rw (e, t) (went e ne (rest box' i.1 (omega (arith, open_falls box' box i.1 rooms i.0 ne))))

      go : ((b : List ℕ) → Rooms b → open_values b < k → Rounds fields (shrink k fields b) (count_rounds k fields b) b) → (l : Look) → round fields box ≡ l
          → Rounds fields (shrink (suc k) fields box) (count_rounds (suc k) fields box) box
      go rest (dead p) e = rw e (died p e refl)
      go rest (alive box') e = same rest box' e (same_rooms box' box) refl

  -- more rounds than there are open values change nothing
  pub shrink-enough : (box : List ℕ) (k j : ℕ) → Rooms box → open_values box < k → open_values box < j → shrink k fields box ≡ shrink j fields box
  shrink-enough box k j rooms hk hj = (rounds_once (shrink-rounds k box rooms hk) (shrink-rounds j box rooms hj)).0

  -- shrinking is rounds that come to an end, and their number is the one that is counted
  pub shrunk-rounds : (box : List ℕ) → Rooms box → Rounds fields (shrunk fields box) (rounds_of fields box) box
  unfolding shrunk rounds_of
  shrunk-rounds box rooms = shrink-rounds (suc (open_values box)) box rooms (omega arith)

  -- an assignment of the box that meets all rules is still in the box after shrinking, which is not dead
  pub shrunk-sound : Sound (λ v. FieldsFit v fields) (λ a. MeetsFields a fields) (shrunk fields)
  shrunk-sound box a rooms fits h m = let s = rounds_spare Kept spared (shrunk-rounds box rooms) (rooms, h) in (s.0, s.1, s.2.1)
    where
      Kept : List ℕ → Type 0
      Kept b = Rooms b × InBox a b

      spared : Spares Kept (round fields)
      spared b q =
          let fit = subst (λ (v : ℕ). FieldsFit v fields) (sym (in-box-length a box h) ∙ in-box-length a b q.1) fits in
          let s = round-sound b a q.0 fit q.1 m in
          (s.0, s.1, ((round-inside b s.0 q.0 s.1).1, s.2))

  -- what each round keeps, shrinking keeps
  pub shrunk_keeps : (Q : List ℕ → Type 0) → Keeps Q (round fields) → (box box' : List ℕ) → Rooms box → Q box → shrunk fields box ≡ alive box' → Q box'
  shrunk_keeps Q each box box' rooms q e = rounds_keep Q each (shrunk-rounds box rooms) box' e q

  -- the shrunk box lies inside the box before, and no room is empty
  pub shrunk-inside : Inward (shrunk fields)
  shrunk-inside box box' rooms =
      shrunk_keeps (λ c. BoxInside c box × Rooms c) (inward-from (round fields) box round-inside rooms) box box' rooms (box-inside_refl box, rooms)

  -- nothing is left to cut in a shrunk box
  pub shrunk_fixed : (box box' : List ℕ) → Rooms box → shrunk fields box ≡ alive box' → round fields box' ≡ alive box'
  shrunk_fixed box box' rooms e = rounds_fixed (shrunk-rounds box rooms) box' e

  -- a box in which nothing is left to cut lies inside all that a larger box shrinks to, which is not dead
  pub fixed-inside-shrunk : (b c : List ℕ) → Rooms b → Rooms c → BoxInside b c → round fields b ≡ alive b
      → (c' : List ℕ) × (shrunk fields c ≡ alive c') × BoxInside b c'
  fixed-inside-shrunk b c hb hc i fixed = let s = rounds_spare (λ d. BoxInside b d × Rooms d) spared (shrunk-rounds c hc) (i, hc) in (s.0, s.1, s.2.0)
    where
      spared : Spares (λ d. BoxInside b d × Rooms d) (round fields)
      spared d q =
          let r = round_monotone b d b hb q.1 q.0 fixed in
          (r.0, r.1, (r.2, (round-inside d r.0 q.1 r.1).1))

  -- a smaller box shrinks to a smaller box, and where the larger is dead so is the smaller
  pub shrunk_monotone : Monotone (shrunk fields)
  shrunk_monotone b c b' hb hc i e =
      let s = shrunk-inside b b' hb e in
      fixed-inside-shrunk b' c s.1 hc (box-inside_trans b' b c s.0 i) (shrunk_fixed b b' hb e)

  -- ---- settled boxes

  -- every assignment of a settled box meets all rules
  pub settled_met : Settling (λ v. FieldsFit v fields) (λ a. MeetsFields a fields) (settled fields)
  settled_met =
      all_settled (λ v f. Fits v f.rule) (λ a f. Meets a f.rule) (λ box f. settled_rule box f.rule) (λ f. rule-settled f.rule) fields

  -- two assignments of the box that agree at every position live in a part that is not settled both meet all rules or both do not
  pub agree_where_live : NotLive (λ v. FieldsFit v fields) (λ a. MeetsFields a fields) (LiveInFields fields)
  agree_where_live =
      all-not_live (λ v f. Fits v f.rule) (λ a f. Meets a f.rule) (λ f. LiveInRule f.rule) (λ f. rule-not_live f.rule) fields
