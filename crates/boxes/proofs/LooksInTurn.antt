-- Laws of looks in turn at the rooms of positions: what is left to look at, and what a look at the next of it leaves. Assumes nothing.
use mathlib.Core.Path.{◌≡◌, refl, sym, ap, ◌∙◌, subst, subst₂}
use mathlib.Core.Bool.{Bool, true, false}
use mathlib.Core.List.{List, [], ◌∷◌, ◌++◌}
use Prim.Native.Nat.{ℕ, ◌-◌}
use native.Mathlib.Omega.{arith}
use lib.ListN.{length, length-set}
use Rattle.rules.specs.declared.field.Atom.{Atom}
use Rattle.rules.specs.Rules.{Rule}
use Rattle.rules.specs.Parts.{Part, one_of, no_more_than, parts_of}
use Rattle.steps.specs.Boxes.{with_room}
use Rattle.steps.specs.Shrinking.{Look, dead, alive, if_alive, cut, live_from, look_by, look_clause, cut_others, look_at_most, look_part, in_turn, look_parts, look_rule}
use Rattle.steps.proofs.Looks.InTurn.{Keeps, dead-not-alive, alive_once, in_turn_one, in_turn_then, in_turn_keeps}
use Rattle.steps.proofs.Looks.AtMostLaws.{AtMostLook, too_many, just_enough, fewer, at_most_look}
use Rattle.steps.proofs.Looks.CutOthers.{cut-length}
use Rattle.rooms.specs.Held.{Held, with_box}
use Rattle.rooms.specs.Looks.{AfterLook, Leaves}

-- ---- a look keeps the number of rooms

by_length : (ps : List ℕ) (place : ℕ) (atoms : List Atom) (box box' : List ℕ) → look_by ps place atoms box ≡ alive box' → length box ≡ length box'
unfolding look_by cut with_room
by_length [] place atoms box box' e = absurd (dead-not-alive (dead place) place box' refl e)
by_length (p ∷ []) place atoms box box' e = let same : cut atoms p box ≡ box' = cc in sym (length-set box (p - 1) _) ∙ ap length same
by_length (p ∷ q ∷ ps) place atoms box box' e = let same : box ≡ box' = cc in ap length same

-- at a clause
pub clause_keeps : (place : ℕ) (atoms : List Atom) (k : ℕ) → Keeps (λ box. k ≡ length box) (look_clause place atoms)
unfolding look_clause
clause_keeps place atoms k box box' h e = h ∙ by_length (live_from atoms 1 box) place atoms box box' e

-- at "no more than n"
at_most_keeps : (place n m : ℕ) (ps : List ℕ) (k : ℕ) → Keeps (λ box. k ≡ length box) (look_at_most place n m ps)
at_most_keeps place n m ps k box box' h e = go (at_most_look place n m ps box)
  where
    go : AtMostLook place n m ps box → k ≡ length box'
    go (too_many more f) = absurd (dead-not-alive (look_at_most place n m ps box) place box' f e)
    go (just_enough is f) = h ∙ sym (cut-length m ps box) ∙ ap length (alive_once (look_at_most place n m ps box) (cut_others m ps box) box' f e)
    go (fewer less f) = h ∙ ap length (alive_once (look_at_most place n m ps box) box box' f e)

-- at a part
pub part_keeps : (place : ℕ) (part : Part) (k : ℕ) → Keeps (λ box. k ≡ length box) (look_part place part)
part_keeps place (one_of atoms) k = clause_keeps place atoms k
part_keeps place (no_more_than n m ps) k = at_most_keeps place n m ps k

-- at parts one after the other
pub parts_keep : (place : ℕ) (parts : List Part) (k : ℕ) → Keeps (λ box. k ≡ length box) (look_parts place parts)
parts_keep place parts k = in_turn_keeps (look_part place) (λ b. k ≡ length b) (λ part. part_keeps place part k) parts

-- at a rule
pub rule_keeps : (place : ℕ) (rule : Rule) (k : ℕ) → Keeps (λ box. k ≡ length box) (look_rule place rule)
rule_keeps place rule k = parts_keep place (parts_of rule) k

-- ---- what an answer says of a look

module _ {R : Type 0} (died : ℕ → R) (lived : R) where
  -- where no place has this answer, the look left its box in front of the rest
  pub after-alive : (l : Look) (r : R) (after : Held) (rest : List ℕ) → AfterLook died lived l r after rest → ((p : ℕ) → r ≡ died p → ⊥) → (box : List ℕ) × (l ≡ alive box) × (after ≡ record { box = box; rest = rest })
  after-alive (dead p) r after rest h ne = absurd (ne p h)
  after-alive (alive box) r after rest h ne = (box, refl, h.1)

  -- where it is not the answer of a look that is alive, the look was dead
  pub after_dead : (l : Look) (r : R) (after : Held) (rest : List ℕ) → AfterLook died lived l r after rest → (r ≡ lived → ⊥) → (p : ℕ) × (l ≡ dead p) × (r ≡ died p)
  after_dead (dead p) r after rest h ne = (p, refl, h)
  after_dead (alive box) r after rest h ne = absurd (ne h.0)

true-not_false : {r : Bool} → r ≡ true → r ≡ false → ⊥
true-not_false t f = let z : ◌≡◌ {A = ℕ} 0 1 = cc in omega arith

-- ---- what is left to look at

-- looks in turn at two lists, one behind the other, are looks in turn at each
pub append-in_turn : {A : Type 0} (look : A → List ℕ → Look) (xs ys : List A) (box : List ℕ) → in_turn look (xs ++ ys) box ≡ in_turn (in_turn look) (xs ∷ ys ∷ []) box
unfolding in_turn
append-in_turn look [] ys box = sym (in_turn_one (in_turn look) ys box)
append-in_turn look (x ∷ xs) ys box = go (append-in_turn look xs ys) (look x box)
  where
    go : ((b : List ℕ) → in_turn look (xs ++ ys) b ≡ in_turn (in_turn look) (xs ∷ ys ∷ []) b)
        → (l : Look) → (if_alive l (λ p. dead p) λ b. in_turn look (xs ++ ys) b)
        ≡ if_alive (if_alive l (λ p. dead p) λ b. in_turn look xs b) (λ p. dead p) λ b. in_turn (in_turn look) (ys ∷ []) b
    go rest (dead p) = refl
    go rest (alive b) = rest b

-- These are left of a whole: looking at them in turn from the rooms as they are now is the whole from the rooms at the start. There are as many rooms as there were.
pub record LeftToLook {A B : Type 0} (look : ℕ → A → List ℕ → Look) (whole : ℕ → B → List ℕ → Look) (all : B) (left : List A) (start now : Held) : Type 0 where
  pub looks : (place : ℕ) → whole place all start.box ≡ in_turn (look place) left now.box
  pub behind : now.rest ≡ start.rest
  pub long : length start.box ≡ length now.box

module _ {A B : Type 0} {look : ℕ → A → List ℕ → Look} {whole : ℕ → B → List ℕ → Look} {all : B} where
  -- at the start all are left
  pub left_all : {left : List A} → ((place : ℕ) (box : List ℕ) → whole place all box ≡ in_turn (look place) left box) → (start : Held) → LeftToLook look whole all left start start
  left_all same start = record { looks = λ place. same place start.box; behind = refl; long = refl }

  module _ {left : List A} {start now : Held} (before : LeftToLook look whole all left start now) where
    -- where none is left the rooms are what the whole leaves
    pub left-none : left ≡ [] → {R : Type 0} (died : ℕ → R) (lived : R) (place : ℕ) → AfterLook died lived (whole place all start.box) lived now start.rest
    unfolding in_turn
    left-none none died lived place =
        subst (λ (l : Look). AfterLook died lived l lived now start.rest) (sym (before.looks place ∙ ap (λ (xs : List A). in_turn (look place) xs now.box) none))
        (refl, λ i. record { box = now.box; rest = before.behind i })

    module _ {x : A} where
      -- what a look at the last leaves, the whole leaves
      pub left_last : left ≡ x ∷ [] → {r : Bool} {after : Held} → Leaves look x now r after → Leaves whole all start r after
      left_last next {r} {after} found = record {
        by = λ place.
            subst₂ (λ (l : Look) (rest : List ℕ). AfterLook (λ _. false) true l r after rest)
            (sym (before.looks place ∙ ap (λ (xs : List A). in_turn (look place) xs now.box) next ∙ in_turn_one (look place) x now.box)) before.behind (found.by place);
      }

      module _ {more : List A} (next : left ≡ x ∷ more) {r : Bool} {after : Held} (found : Leaves look x now r after) where
        whole_here : (place : ℕ) → whole place all start.box ≡ in_turn (look place) (x ∷ more) now.box
        whole_here place = before.looks place ∙ ap (λ (xs : List A). in_turn (look place) xs now.box) next

        -- where a look at the next is dead, the whole is
        pub left-dead : r ≡ false → (place : ℕ) → (p : ℕ) × (look place x now.box ≡ dead p) × (whole place all start.box ≡ dead p)
        unfolding in_turn
        left-dead f place =
            let d = after_dead (λ _. false) true (look place x now.box) r after now.rest (found.by place) (λ t. true-not_false t f) in
            (d.0, d.1, whole_here place ∙ ap (λ (l : Look). if_alive l (λ p. dead p) λ b. in_turn (look place) more b) d.1)

        -- and its answer is false
        pub left-dead-leaves : r ≡ false → (last : Held) → Leaves whole all start false last
        left-dead-leaves f last = record { by = λ place. subst (λ (l : Look). AfterLook (λ _. false) true l false last start.rest) (sym (left-dead f place).2) refl }

        -- else those behind it are left, at the rooms that it leaves
        pub left_then : ((place k : ℕ) → Keeps (λ box. k ≡ length box) (look place x)) → r ≡ true → LeftToLook look whole all more start after
        left_then keeps t = record {
          looks = λ place.
              let a = alive-here place in
              whole_here place ∙ in_turn_then (look place) x more now.box a.0 a.1 ∙ ap (λ (held : Held). in_turn (look place) more held.box) (sym a.2);
          behind = ap (λ (held : Held). held.rest) (alive-here 0).2 ∙ before.behind;
          long = before.long ∙ keeps 0 (length now.box) now.box (alive-here 0).0 refl (alive-here 0).1 ∙ ap (λ (held : Held). length held.box) (sym (alive-here 0).2);
        }
          where
            alive-here : (place : ℕ) → (box : List ℕ) × (look place x now.box ≡ alive box) × (after ≡ with_box box now)
            alive-here place = after-alive (λ _. false) true (look place x now.box) r after now.rest (found.by place) (λ p f. true-not_false t f)
