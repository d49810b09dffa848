-- Shrinking finds dead what is first found dead by going through the fields over and over: `shrunk-first-dead`. It is a field of the file: `dead_field`. Assumes nothing.
use mathlib.Core.Path.{◌≡◌, refl, sym, ap, ◌∙◌, subst}
use mathlib.Core.Logic.{◌↔◌, ⊎_elim}
use mathlib.Core.List.{List}
use Prim.Native.Nat.{ℕ, zero, suc}
use Rattle.lists.proofs.ListLaws.{some_map, some-over-append}
use Rattle.lists.proofs.TestLaws.{test_cases}
use Rattle.lists.specs.Lists.{Some}
use Rattle.rules.specs.Rules.{Field}
use Rattle.steps.specs.Boxes.{Rooms}
use Rattle.steps.specs.Shrinking.{Look, dead, alive, if_alive, in_turn, look_field, round, same_rooms, shrunk}
use Rattle.steps.specs.FirstDead.{over_and_over, FirstDead}
use Rattle.steps.specs.Rounds.{Rounds, died, rested, went}
use Rattle.steps.proofs.Boxes.BoxLaws.{same_rooms_iff}
use Rattle.steps.proofs.Looks.InTurn.{dead-not-alive, in_turn-append, in_turn_killed}
use Rattle.steps.proofs.Looks.RuleLaws.{rule-place}
use Rattle.steps.proofs.Looks.ShrinkLaws.{rounds_once, shrunk-rounds}

-- a dead round names the place of one of the fields
pub round_field : (fields : List Field) (box : List ℕ) (place : ℕ) → round fields box ≡ dead place → Some (λ f. f.place ≡ place) fields
round_field fields box place e =
    some_map (λ f. (b : List ℕ) × (look_field f b ≡ dead place)) (λ f. f.place ≡ place) fields (λ f h. sym (rule-place f.place f.rule h.0 place h.1))
    (in_turn_killed look_field fields box place e)

module _ (fields : List Field) where
  -- the fields gone through some times more after a look
  later : ℕ → Look → Look
  later k l = if_alive l (λ p. dead p) λ b. in_turn look_field (over_and_over k fields) b

  -- going through them once more is a round first
  once_more : (k : ℕ) (box : List ℕ) {l : Look} → round fields box ≡ l → in_turn look_field (over_and_over (suc k) fields) box ≡ later k l
  unfolding over_and_over later
  once_more k box r = in_turn-append look_field fields (over_and_over k fields) box ∙ ap (later k) r

  -- rounds that come to a dead field are the fields gone through over and over
  rounds-over : {l : Look} {k : ℕ} {box : List ℕ} → Rounds fields l k box → (place : ℕ) → l ≡ dead place → FirstDead fields box place
  unfolding later
  rounds-over {box = box} (died p r e) place d = (1, once_more 0 box r ∙ sym e ∙ d)
  rounds-over {l} {box} (rested r e) place d = absurd (dead-not-alive l place box d e)
  rounds-over {box = box} (went r ne more) place d = let found = rounds-over more place d in (suc found.0, once_more found.0 box r ∙ found.1)

  -- and the other way round
  over-rounds : (k : ℕ) (box : List ℕ) (place : ℕ) → in_turn look_field (over_and_over k fields) box ≡ dead place → (j : ℕ) × Rounds fields (dead place) j box
  unfolding over_and_over in_turn later
  over-rounds zero box place e = absurd (dead-not-alive (alive box) place box e refl)
  over-rounds (suc k) box place e = go (over-rounds k) (round fields box) refl
    where
      go : ((b : List ℕ) (q : ℕ) → in_turn look_field (over_and_over k fields) b ≡ dead q → (j : ℕ) × Rounds fields (dead q) j b) → (l : Look) → round fields box ≡ l
          → (j : ℕ) × Rounds fields (dead place) j box
      go rest (dead p) r = (1, died place (r ∙ sym (once_more k box r) ∙ e) refl)
      go rest (alive b) r =
          let found = rest b place (sym (once_more k box r) ∙ e) in
          ⊎_elim (λ t. (found.0, subst (Rounds fields (dead place) found.0) ((same_rooms_iff b box).0 t) found.1))
          (λ ne. (suc found.0, went r (λ same. ne ((same_rooms_iff b box).1 same)) found.1))
          (test_cases (same_rooms b box))

  -- shrinking finds a field dead exactly if it is the first found dead so
  pub shrunk-first-dead : (box : List ℕ) (place : ℕ) → Rooms box → (shrunk fields box ≡ dead place) ↔ FirstDead fields box place
  shrunk-first-dead box place rooms =
      (rounds-over (shrunk-rounds fields box rooms) place, λ h. (rounds_once fields (shrunk-rounds fields box rooms) (over-rounds h.0 box place h.1).1).0)

  -- a field that the first round finds dead is the first found dead
  pub round-first-dead : (box : List ℕ) (place : ℕ) → round fields box ≡ dead place → FirstDead fields box place
  unfolding later
  round-first-dead box place e = (1, once_more 0 box e)

  -- there is one such place
  pub first-dead_once : (box : List ℕ) (p q : ℕ) → FirstDead fields box p → FirstDead fields box q → p ≡ q
  first-dead_once box p q h g = let same = (rounds_once fields (over-rounds h.0 box p h.1).1 (over-rounds g.0 box q g.1).1).0 in cc

  -- what holds of one of them over and over holds of one of them
  some-over : (P : Field → Type 0) (k : ℕ) → Some P (over_and_over k fields) → Some P fields
  unfolding over_and_over
  some-over P zero h = absurd h
  some-over P (suc k) h = ⊎_elim (λ s. s) (some-over P k) ((some-over-append P fields (over_and_over k fields)).0 h)

  -- and it is that of one of the fields
  pub dead_field : (box : List ℕ) (place : ℕ) → FirstDead fields box place → Some (λ f. f.place ≡ place) fields
  dead_field box place h = some-over (λ f. f.place ≡ place) h.0 (round_field (over_and_over h.0 fields) box place h.1)
