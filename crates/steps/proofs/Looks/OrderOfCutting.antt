-- Any order of cutting gives the same verdict as shrinking, and the same rooms where the box is not dead. Assumes nothing.
use mathlib.Core.Path.{◌≡◌, refl, ap, ◌∙◌, subst}
use mathlib.Core.Logic.{◌⊎◌, inl, inr, ⊎_map}
use mathlib.Core.List.{List}
use Prim.Native.Nat.{ℕ, ◌<◌}
use Rattle.lists.proofs.TestLaws.{test_cases}
use Rattle.lists.specs.Lists.{Some, Every}
use Rattle.lists.proofs.ListLaws.{every-or_other}
use Rattle.rules.specs.Rules.{Field}
use Rattle.rules.specs.Parts.{Part, parts_of}
use Rattle.lists.proofs.ListLaws.{listed_of_some, every_map, every_with_some}
use Rattle.steps.specs.Boxes.{open_values, BoxInside, Rooms}
use Rattle.steps.specs.Shrinking.{Look, dead, alive, look_part, look_field, same_rooms, round, shrunk}
use Rattle.steps.proofs.Boxes.BoxLaws.{box-inside_refl, box-inside_trans, box-inside_antisymmetric, same_rooms_iff}
use Rattle.steps.proofs.Boxes.BoxSizes.{open_falls}
use Rattle.steps.proofs.Looks.PartLaws.{part-inside, part-place, part_monotone}
use Rattle.steps.proofs.Looks.InTurn.{dead-not-alive, in_turn_unchanged, in_turn_fixed}
use Rattle.steps.proofs.Looks.ShrinkLaws.{shrunk-inside, shrunk_fixed, fixed_each, fixed-inside-shrunk}

-- P holds of some part of some field, with the field's place
abbrev pub SomePart : (ℕ → Part → Type 0) → List Field → Type 0
SomePart P fields = Some (λ f. Some (P f.place) (parts_of f.rule)) fields

-- P holds of every part of every field, with the field's place
abbrev pub EveryPart : (ℕ → Part → Type 0) → List Field → Type 0
EveryPart P fields = Every (λ f. Every (P f.place) (parts_of f.rule)) fields

-- a look at the part leaves c of b
abbrev pub Leaves : List ℕ → List ℕ → ℕ → Part → Type 0
Leaves b c place part = look_part place part b ≡ alive c

-- a look at the part finds b dead
abbrev pub Kills : List ℕ → ℕ → Part → Type 0
Kills b place part = look_part place part b ≡ dead place

-- a look at the part changes b
abbrev pub Changes : List ℕ → ℕ → Part → Type 0
Changes b place part = (c : List ℕ) × Leaves b c place part × (c ≡ b → ⊥)

-- a look at one part, of whichever field, leaves c of b
abbrev pub Cuts : List Field → List ℕ → List ℕ → Type 0
Cuts fields b c = SomePart (Leaves b c) fields

-- cuts one after the other, in any order, leave c of b
pub data CutSteps (fields : List Field) : List ℕ → List ℕ → Type 0 where
  uncut : {b : List ℕ} → CutSteps fields b b
  cut_then : {b c d : List ℕ} → Cuts fields b c → CutSteps fields c d → CutSteps fields b d

-- no look at a part changes the box
abbrev pub NoCut : List Field → List ℕ → Type 0
NoCut fields b = EveryPart (Leaves b b) fields

-- a look at some part finds the box dead
abbrev pub DeadIn : List Field → List ℕ → Type 0
DeadIn fields b = SomePart (Kills b) fields

module _ (fields : List Field) where
  -- where nothing can be cut, a round changes nothing
  no-cut-round : (b : List ℕ) → NoCut fields b → round fields b ≡ alive b
  no-cut-round b h =
      in_turn_unchanged look_field fields b
      (every_map (λ f. Every (Leaves b b f.place) (parts_of f.rule)) (λ f. look_field f b ≡ alive b) fields
      (λ f each. in_turn_unchanged (look_part f.place) (parts_of f.rule) b each) h)

  -- where a round changes nothing, nothing can be cut
  round_no-cut : (b : List ℕ) → Rooms b → round fields b ≡ alive b → NoCut fields b
  round_no-cut b rooms e =
      every_map (λ f. look_field f b ≡ alive b) (λ f. Every (Leaves b b f.place) (parts_of f.rule)) fields
      (λ f d. in_turn_fixed (look_part f.place) (part-inside f.place) (parts_of f.rule) b rooms d)
      (fixed_each fields b rooms e)

  -- the part of which it holds, and that it cuts nothing from a box from which nothing can be cut
  met_uncut : (P : ℕ → Part → Type 0) (d : List ℕ) → NoCut fields d → SomePart P fields
      → (place : ℕ) × (part : Part) × Leaves d d place part × P place part
  met_uncut P d h s =
      let f = every_with_some (λ f. Every (Leaves d d f.place) (parts_of f.rule)) (λ f. Some (P f.place) (parts_of f.rule)) fields h s in
      let c = every_with_some (Leaves d d f.0.place) (P f.0.place) (parts_of f.0.rule) f.2 f.3 in
      (f.0.place, c.0, c.2, c.3)

  -- a cut leaves a smaller box
  pub cut_inside : (b c : List ℕ) → Rooms b → Cuts fields b c → BoxInside c b × Rooms c
  cut_inside b c rooms s =
      let f = listed_of_some (λ f. Some (Leaves b c f.place) (parts_of f.rule)) fields s in
      let a = listed_of_some (Leaves b c f.0.place) (parts_of f.0.rule) f.2 in
      part-inside f.0.place a.0 b c rooms a.2

  -- a cut that changes the box takes an open value away, so cutting comes to an end in whichever order
  pub cut_falls : (b c : List ℕ) → Rooms b → Cuts fields b c → (c ≡ b → ⊥) → open_values c < open_values b
  cut_falls b c rooms s ne = let i = cut_inside b c rooms s in open_falls c b i.1 rooms i.0 ne

  -- nothing can be cut, or a look at some part finds the box dead or changes it
  pub cut-or_end : (b : List ℕ) → NoCut fields b ⊎ SomePart (λ place part. Kills b place part ⊎ Changes b place part) fields
  cut-or_end b =
      every-or_other (λ f. Every (Leaves b b f.place) (parts_of f.rule)) (λ f. Some (Stirs f.place) (parts_of f.rule))
      (λ f. every-or_other (Leaves b b f.place) (Stirs f.place) (λ c. look f.place c (look_part f.place c b) refl) (parts_of f.rule)) fields
    where
      Stirs : ℕ → Part → Type 0
      Stirs place part = Kills b place part ⊎ Changes b place part

      look : (place : ℕ) (c : Part) (l : Look) → look_part place c b ≡ l → Leaves b b place c ⊎ Stirs place c
      look place c (dead p) e = inr (inl (e ∙ ap dead (part-place place c b p e)))
      look place c (alive d) e =
          ⊎_map (λ t. e ∙ ap alive ((same_rooms_iff d b).0 t)) (λ ne. inr (d, e, λ same. ne ((same_rooms_iff d b).1 same))) (test_cases (same_rooms d b))

  -- cuts leave a smaller box
  steps-inside : {b c : List ℕ} → CutSteps fields b c → Rooms b → BoxInside c b × Rooms c
  steps-inside (uncut {b}) rooms = (box-inside_refl b, rooms)
  steps-inside (cut_then {b} {c} {d} s more) rooms =
      let i = cut_inside b c rooms s in
      let r = steps-inside more i.1 in
      (box-inside_trans d c b r.0 i.0, r.1)

  -- a box from which nothing can be cut stays inside whatever is cut
  uncut-inside : (d : List ℕ) → Rooms d → NoCut fields d → {b c : List ℕ} → CutSteps fields b c → Rooms b → BoxInside d b → BoxInside d c
  uncut-inside d hd h uncut rooms i = i
  uncut-inside d hd h (cut_then {b} {c} s more) rooms i =
      let f = met_uncut (Leaves b c) d h s in
      let m = part_monotone f.0 f.1 d b d hd rooms i f.2 in
      let same : m.0 ≡ c = cc (m.1, f.3) in
      uncut-inside d hd h more (cut_inside b c rooms s).1 (subst (λ (x : List ℕ). BoxInside d x) same m.2)

  -- the shrunk box stays inside whatever is cut, and nothing can be cut from it
  shrunk_uncut : (b c d : List ℕ) → Rooms b → CutSteps fields b c → shrunk fields b ≡ alive d → Rooms d × NoCut fields d × BoxInside d c
  shrunk_uncut b c d rooms steps e =
      let i = shrunk-inside fields b d rooms e in
      let h = round_no-cut d i.1 (shrunk_fixed fields b d rooms e) in
      (i.1, h, uncut-inside d i.1 h steps rooms i.0)

  -- cutting in any order until nothing is left to cut gives the shrunk box
  pub any_order_same : (b c : List ℕ) → Rooms b → CutSteps fields b c → NoCut fields c → shrunk fields b ≡ alive c
  any_order_same b c rooms steps h =
      let i = steps-inside steps rooms in
      let s = fixed-inside-shrunk fields c b i.1 rooms i.0 (no-cut-round c h) in
      let u = shrunk_uncut b c s.0 rooms steps s.1 in
      s.1 ∙ ap alive (box-inside_antisymmetric s.0 c u.2 s.2)

  -- where cutting in some order finds the box dead, so does shrinking
  pub any_order-dead : (b c : List ℕ) → Rooms b → CutSteps fields b c → DeadIn fields c → (place : ℕ) × (shrunk fields b ≡ dead place)
  any_order-dead b c rooms steps s = go (shrunk fields b) refl
    where
      go : (l : Look) → shrunk fields b ≡ l → (place : ℕ) × (shrunk fields b ≡ dead place)
      go (dead place) e = (place, e)
      go (alive d) e =
          let u = shrunk_uncut b c d rooms steps e in
          let f = met_uncut (Kills c) d u.1 s in
          let m = part_monotone f.0 f.1 d c d u.0 (steps-inside steps rooms).1 u.2 f.2 in
          absurd (dead-not-alive (look_part f.0 f.1 c) f.0 m.0 f.3 m.1)
