-- Demand 3's special kind: in a shrunk box that lives the smallest values are a plan, and the search finds one without a dead end. Assumes nothing.
use mathlib.Core.Path.{◌≡◌, refl}
use mathlib.Core.Logic.{⊎_elim}
use mathlib.Core.List.{List, [], ◌∷◌}
use Prim.Native.Nat.{ℕ, ◌+◌, ◌≤◌, ◌<◌}
use native.Mathlib.Nat.{le_trans}
use native.Mathlib.Omega.{arith}
use lib.Dec.{T}
use lib.ListN.{length, get_or}
use Rattle.sets.specs.Sets.{single, count, smallest}
use Rattle.sets.proofs.Members.{member-single}
use Rattle.sets.proofs.Counting.{count_of-single}
use Rattle.sets.proofs.Smallest.{smallest_range}
use Rattle.rules.specs.declared.field.Atom.{Atom}
use Rattle.rules.specs.Rules.{Rule, Field, clause, equality, starting, at_most}
use Rattle.rules.specs.Meaning.{Meets, MeetsFields}
use Rattle.rules.specs.Parts.{one_of, parts_of}
use Rattle.lists.proofs.ListLaws.{every_of_listed, every_at}
use Rattle.steps.specs.Boxes.{InBox, BoxInside, Rooms, smallest_of, first_half}
use Rattle.steps.specs.Shrinking.{look_part, look_parts, alive, look_rule, round, shrunk}
use Rattle.steps.specs.Reply.{Reply}
use Rattle.steps.specs.Search.{never, explored}
use Rattle.steps.specs.Special.{odd_sets, special_rule, special_rules}
use Rattle.steps.proofs.Boxes.BoxLaws.{box-inside_refl, box-inside_trans, in-box-set, rooms_at}
use Rattle.steps.proofs.Boxes.BoxSizes.{smallest_in-box, smallest-lowest}
use Rattle.steps.proofs.Looks.InTurn.{in_turn_fixed, all-passed}
use Rattle.steps.proofs.Looks.PartLaws.{part-inside}
use Rattle.steps.proofs.Looks.FittingRules.{FitsBox, fits-inside}
use Rattle.steps.proofs.Looks.ShrinkLaws.{fixed_each}
use Rattle.steps.proofs.Special.LadderLaws.{one_atom-few, smallest_at, ladder-clause-least}
use Rattle.steps.proofs.Special.SpecialExactly.{special-few}
use Rattle.steps.proofs.Search.Split.{other_stays}
use Rattle.steps.proofs.Search.Chosen.{PlanIn}
use Rattle.steps.proofs.Search.Tree.{Shrinks, Tree, dies, settles, divides, shrinks, first_smaller, tree}
use Rattle.steps.proofs.Search.Walk.{walk, explored_walks}
use Rattle.steps.proofs.Search.Says.{plan_lives, shrunk_plans}
use Rattle.steps.proofs.Search.WideRooms.{wide_rooms, wide-inside, wide_falls}

-- ---- the smallest values

module _ (start : List ℕ) (first : Rooms start) (box : List ℕ) (rooms : Rooms box) (within : BoxInside box start) where
  -- where the look at a clause of the special kind changes nothing, the smallest values meet it
  special-clause-least : (place : ℕ) (atoms : List Atom) → odd_sets (length start) start atoms ≤ 1 → look_parts place (one_of atoms ∷ []) box ≡ alive box
      → Meets (smallest_of box) (clause atoms)
  special-clause-least place atoms few e =
      ladder-clause-least start box first rooms within place atoms few (in_turn_fixed (look_part place) (part-inside place) (one_of atoms ∷ []) box rooms e).0

  -- so it is with a rule of that kind: a starting set is the clause of its one atom
  special_rule-least : (place : ℕ) (rule : Rule) → T (special_rule (length start) start rule) → look_rule place rule box ≡ alive box
      → Meets (smallest_of box) rule
  unfolding special_rule parts_of
  special_rule-least place (clause atoms) t e = special-clause-least place atoms (special-few (length start) start atoms t) e
  special_rule-least place (equality m ps) t e = absurd t
  special_rule-least place (at_most k m ps) t e = absurd t
  special_rule-least place (starting a) t e = ⊎_elim (λ h. h) absurd (special-clause-least place (a ∷ []) (one_atom-few start a (length start) first) e)

  -- once shrinking is over and the box lives, the smallest value of every room is a plan
  pub special-least : (fields : List Field) → T (special_rules (length start) start fields) → round fields box ≡ alive box
      → MeetsFields (smallest_of box) fields
  unfolding special_rules
  special-least fields special e =
      let fixed = fixed_each fields box rooms e in
      let each = all-passed (λ f. special_rule (length start) start f.rule) (special_rules (length start) start) refl (λ f fs. refl) fields special in
      every_of_listed (λ f. Meets (smallest_of box) f.rule) fields
      (λ f l. special_rule-least f.place f.rule (every_at (λ g. T (special_rule (length start) start g.rule)) each l)
      (every_at (λ g. look_rule g.place g.rule box ≡ alive box) fixed l))

module _ (box : List ℕ) (i : ℕ) (rooms : Rooms box) (there : i < length box) where
  least_range : (1 ≤ smallest (get_or box i 0)) × (smallest (get_or box i 0) ≤ 32)
  least_range = let room = rooms_at box i rooms there in smallest_range (get_or box i 0) room.0 room.1

  -- the smallest values lie in the first half
  smallest_in-first : InBox (smallest_of box) (first_half i box)
  unfolding first_half
  smallest_in-first =
      let least = smallest (get_or box i 0) in
      in-box-set (smallest_of box) box i (single least) (smallest_in-box box rooms)
      ((member-single least (get_or (smallest_of box) i 0)).1 (least_range.0, least_range.1, smallest_at box i))

  -- the first half has a room of two or more values less
  first_wide_lem : 2 ≤ count (get_or box i 0) → wide_rooms (first_half i box) < wide_rooms box
  unfolding first_half
  first_wide_lem two =
      let least = smallest (get_or box i 0) in
      wide_falls box i (single least) there two (omega (arith, count_of-single least least_range.0 least_range.1))

-- ---- what the search finds

-- beyond the splits s and the dead ends d before it, the reply is a plan at no dead end, with at most as many splits as there are rooms to split,
-- at no position higher than any other plan of the box
pub record FoundLow (fields : List Field) (box : List ℕ) (s d : ℕ) (r : Reply) : Type 0 where
  pub number : r.number ≡ 0
  pub dead_ends : r.dead_ends ≡ d
  pub splits : r.splits ≤ s + wide_rooms box
  pub lowest : (b : List ℕ) → PlanIn fields box b → (i : ℕ) → get_or r.values i 0 ≤ get_or b i 0

-- a box to start with, and rules that fit it and are of the special kind by it
module _ (fields : List Field) (start : List ℕ) (first : Rooms start) (fits : FitsBox fields start) (special : T (special_rules (length start) start fields)) where
  module _ {box inner : List ℕ} (m : Shrinks fields box inner) (within : BoxInside box start) where
    -- the smallest values of the shrunk box are a plan
    least-meets : MeetsFields (smallest_of inner) fields
    least-meets = special-least start first inner m.rooms (box-inside_trans inner box start m.inside within) fields special m.fixed

    -- at no position higher than any other plan of the box
    least-lowest : (b : List ℕ) → PlanIn fields box b → (i : ℕ) → get_or (smallest_of inner) i 0 ≤ get_or b i 0
    least-lowest b p i = smallest-lowest inner b i m.rooms ((shrunk_plans fields m (fits-inside fields box start within fits) b).1 p).0

  -- a box inside the start that has a plan: each of its rooms is split at most once, and the first half of every split has a plan
  walk_low : {box : List ℕ} (t : Tree fields box) → BoxInside box start → (a : List ℕ) → PlanIn fields box a → (s d : ℕ)
      → FoundLow fields box s d (walk t never s d)
  walk_low {box} (dies place rooms e) within a p s d = absurd (plan_lives fields box a place rooms (fits-inside fields box start within fits) p e)
  walk_low (settles m t) within a p s d = record { number = refl; dead_ends = refl; splits = omega arith; lowest = least-lowest m within }
  walk_low {box} (divides {inner = inner} {i = i} m u at q f o) within a p s d =
      let least : PlanIn fields (first_half i inner) (smallest_of inner) = (smallest_in-first inner i m.rooms q.there, least-meets m within) in
      let low = walk_low f (box-inside_trans (first_half i inner) box start (first_smaller m q).inside within) (smallest_of inner) least (s + 1) d in
      rw (other_stays (walk f never (s + 1) d) (walk o never) (λ e. omega (arith, e, low.number))) (record {
        number = low.number;
        dead_ends = low.dead_ends;
        splits = omega (arith, first_wide_lem inner i m.rooms q.there q.two, wide-inside inner box m.rooms m.before m.inside);
        lowest = λ b h j. le_trans (low.lowest (smallest_of inner) least j) (least-lowest m within b h j);
      })

  -- where the start lives, the search finds such a plan
  pub special-plan : (inner : List ℕ) → shrunk fields start ≡ alive inner → FoundLow fields start 0 0 (explored fields start)
  special-plan inner e =
      let m = shrinks fields start inner first e in
      let t = tree fields start first fits in
      let least = (shrunk_plans fields m fits (smallest_of inner)).0 (smallest_in-box inner m.rooms, least-meets m (box-inside_refl start)) in
      rw (explored_walks t) (walk_low t (box-inside_refl start) (smallest_of inner) least 0 0)
