-- Laws of the union of a position's sets in a clause: by an atom more, and of two lists of atoms. Assumes nothing.
use mathlib.Core.Path.{◌≡◌, refl, ◌∙◌}
use mathlib.Core.Logic.{⊎_map}
use mathlib.Core.List.{List, [], ◌∷◌, ◌++◌}
use Prim.Native.Nat.{ℕ}
use borrow.Author.Tests.{eq-eqb, ne_eqb}
use Rattle.sets.specs.Sets.{IsMember, union}
use Rattle.sets.proofs.Members.{member_union}
use Rattle.sets.proofs.Sameness.{member_extensional}
use Rattle.sets.proofs.Unions.{union_empty}
use Rattle.rules.specs.declared.field.Atom.{Atom}
use Rattle.lists.proofs.ListLaws.{some-over-append}
use Rattle.steps.specs.Shrinking.{unite_if, united}
use Rattle.steps.proofs.Looks.LiveLaws.{member-united}

module _ (a : Atom) (more : List Atom) where
  -- an atom adds its set to the union of its position
  pub united-here : (p : ℕ) → a.position ≡ p → united p (a ∷ more) ≡ union a.set (united p more)
  unfolding united unite_if
  united-here p e = rw (eq-eqb a.position p e)

  -- an atom adds nothing to the union of another position
  pub united_elsewhere : (p : ℕ) → (a.position ≡ p → ⊥) → united p (a ∷ more) ≡ united p more
  unfolding united unite_if
  united_elsewhere p ne = rw (ne_eqb a.position p ne)

-- no atom has no set
pub united_none : (p : ℕ) → united p [] ≡ 0
unfolding united
united_none p = refl

-- the union of one atom's sets is its set
pub united_one : (a : Atom) (p : ℕ) → a.position ≡ p → united p (a ∷ []) ≡ a.set
unfolding united
united_one a p e = united-here a [] p e ∙ union_empty a.set

-- the union of a position's sets in two lists of atoms
pub united-append : (q : ℕ) (xs ys : List Atom) → united q (xs ++ ys) ≡ union (united q xs) (united q ys)
united-append q xs ys = member_extensional (united q (xs ++ ys)) (union (united q xs) (united q ys)) λ x. (
  λ t. (member_union x (united q xs) (united q ys)).1 (⊎_map (member-united q x xs).1 (member-united q x ys).1 ((some-over-append (Has x) xs ys).0 ((member-united q x (xs ++ ys)).0 t))),
  λ t. (member-united q x (xs ++ ys)).1 ((some-over-append (Has x) xs ys).1 (⊎_map (member-united q x xs).0 (member-united q x ys).0 ((member_union x (united q xs) (united q ys)).0 t))),
)
  where
    Has : ℕ → Atom → Type 0
    Has x a = (a.position ≡ q) × IsMember x a.set
