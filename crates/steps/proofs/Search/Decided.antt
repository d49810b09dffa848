-- Demands 2 and 3 of the search of any box: which reply it gives, exactly when, and at how many splits. Assumes nothing.
use mathlib.Core.Path.{◌≡◌, refl, ap}
use mathlib.Core.Logic.{◌↔◌, ◌⊎◌, inl, inr, ⊎_elim}
use mathlib.Core.List.{List}
use Prim.Native.Nat.{ℕ, ◌-◌, ◌≤◌, ◌<◌}
use native.Mathlib.Omega.{arith}
use lib.Dec.{T}
use lib.ListN.{length, get_or}
use Rattle.rules.specs.Rules.{Field}
use Rattle.steps.specs.Boxes.{box_size, Rooms}
use Rattle.steps.specs.Shrinking.{Look, dead, alive, shrunk}
use Rattle.steps.specs.Reply.{Reply}
use Rattle.steps.specs.Search.{searched, explored}
use Rattle.steps.specs.Special.{special_rules}
use Rattle.steps.proofs.Looks.FittingRules.{FitsBox}
use Rattle.steps.proofs.Search.Allowance.{Spent, enough-or-not, enough-allowed, too-few-allowed}
use Rattle.steps.proofs.Search.Bounds.{explore-bound}
use Rattle.steps.proofs.Search.Says.{Same, Says, says_same, explored_says}
use Rattle.steps.proofs.Search.Special.{special-plan}
use Rattle.steps.proofs.Search.Chosen.{PlanIn, First}
use Rattle.steps.proofs.Search.Walk.{explored-dead}
use Rattle.steps.proofs.Search.WideRooms.{wide_rooms}

-- a box to search: its rooms, rules that fit it, and what its plans are
pub record Start (fields : List Field) (box : List ℕ) (Plan : List ℕ → Type 0) : Type 0 where
  pub rooms : Rooms box
  pub fits : FitsBox fields box
  pub plans : Same (PlanIn fields box) Plan

-- which of three cases a number tells
pub record Exactly (n : ℕ) (A B C : Type 0) : Type 0 where
  pub plan : (n ≡ 0) ↔ A
  pub none : (n ≡ 1) ↔ B
  pub undecided : (n ≡ 2) ↔ C
  pub only : n ≤ 2

-- three cases of which no two hold together, each with its number, are told by it
exactly : {A B C : Type 0} (n : ℕ) → (A → B → ⊥) → (A → C → ⊥) → (B → C → ⊥) → ((n ≡ 0) × A) ⊎ (((n ≡ 1) × B) ⊎ ((n ≡ 2) × C)) → Exactly n A B C
exactly n ab ac bc (inl (e, a)) =
    record { plan = (λ f. a, λ f. e); none = (λ f. absurd (omega arith), λ b. absurd (ab a b)); undecided = (λ f. absurd (omega arith), λ c. absurd (ac a c)); only = omega arith }
exactly n ab ac bc (inr (inl (e, b))) =
    record { plan = (λ f. absurd (omega arith), λ a. absurd (ab a b)); none = (λ f. b, λ f. e); undecided = (λ f. absurd (omega arith), λ c. absurd (bc b c)); only = omega arith }
exactly n ab ac bc (inr (inr (e, c))) =
    record { plan = (λ f. absurd (omega arith), λ a. absurd (ac a c)); none = (λ f. absurd (omega arith), λ b. absurd (bc b c)); undecided = (λ f. c, λ f. e); only = omega arith }

module _ {fields : List Field} {box : List ℕ} {Plan : List ℕ → Type 0} (start : Start fields box Plan) (allowed : ℕ) where
  -- the reply, and the splits that are needed
  abbrev reply : Reply
  reply = searched fields allowed box 0 0

  abbrev needs : ℕ
  needs = (explored fields box).splits

  -- enough splits are allowed, and the reply is that of the search without an allowance
  enough : needs ≤ allowed → reply ≡ explored fields box
  enough = enough-allowed fields box start.rooms start.fits allowed

  -- or they are not, and all are spent
  too_few : allowed < needs → Spent allowed reply
  too_few = too-few-allowed fields box start.rooms start.fits allowed

  -- with enough, what is said is right
  says : needs ≤ allowed → Says Plan reply
  says h = rw (enough h) (says_same (PlanIn fields box) Plan (explored fields box) start.plans (explored_says fields box start.rooms start.fits))

  -- PLAN exactly if there is a plan, NONE exactly if there is none, where the needed splits are allowed; UNDECIDED exactly if they are not; nothing else
  pub answers : Exactly reply.number (((a : List ℕ) × Plan a) × (needs ≤ allowed)) (((a : List ℕ) → Plan a → ⊥) × (needs ≤ allowed)) (allowed < needs)
  answers =
      exactly reply.number (λ a b. b.0 a.0.0 a.0.1) (λ a c. omega arith) (λ b c. omega arith)
      (⊎_elim (λ h. ⊎_elim (λ s. inl (s.0, ((reply.values, s.1.0), h))) (λ s. inr (inl (s.0, (s.1, h)))) (says h))
      (λ h. inr (inr ((too_few h).0, h))) (enough-or-not needs allowed))

  -- a plan that the search gives is the first of all
  pub plan-first : reply.number ≡ 0 → First Plan reply.values
  plan-first e = ⊎_elim (λ s. s.1) (λ s. absurd (omega (arith, e, s.0))) (says (answers.plan.0 e).1)

  -- UNDECIDED has spent the allowance
  pub undecided_spent : reply.number ≡ 2 → reply.splits ≡ allowed
  undecided_spent e = (too_few (answers.undecided.0 e)).1

  -- splits stay below the number of assignments
  pub splits-bound : reply.splits ≤ box_size box - 1
  splits-bound =
      let bound = explore-bound fields box start.rooms start.fits in
      ⊎_elim (λ h. omega (arith, ap (λ (r : Reply). r.splits) (enough h))) (λ h. omega (arith, too_few h)) (enough-or-not needs allowed)

  -- NONE at no split, or a plan at no dead end, at no position higher than any other plan
  abbrev pub SpecialReply : Type 0
  SpecialReply =
      ((reply.number ≡ 1) × (reply.splits ≡ 0))
      ⊎ ((reply.number ≡ 0) × (reply.dead_ends ≡ 0) × ((b : List ℕ) → Plan b → (i : ℕ) → get_or reply.values i 0 ≤ get_or b i 0))

  -- the special kind, by the box that is searched as the starting sets, gets such a reply where as many splits are allowed as there are rooms to split
  pub special_decides : T (special_rules (length box) box fields) → wide_rooms box ≤ allowed → SpecialReply
  special_decides kind h = go (shrunk fields box) refl
    where
      go : (l : Look) → shrunk fields box ≡ l → SpecialReply
      go (dead place) e = let found = explored-dead fields box place e in rw (enough (omega (arith, ap (λ (r : Reply). r.splits) found)), found) (inl (refl, refl))
      go (alive inner) e =
          let low = special-plan fields box start.rooms start.fits kind inner e in
          rw (enough (omega arith)) (inr (low.number, low.dead_ends, λ b p i. low.lowest b ((start.plans b).1 p) i))
