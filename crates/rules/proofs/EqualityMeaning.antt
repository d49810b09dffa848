-- An equality means its clauses, a rule its parts; an assignment meets a rule or does not. Assumes nothing.
use mathlib.Core.Path.{◌≡◌, refl, subst}
use mathlib.Core.List.{List, [], ◌∷◌, map, Memᴰ}
use mathlib.Core.Logic.Iff
use mathlib.Core.Logic.{◌↔◌, ◌⊎◌, inl, ⊎_elim, ⊎_map, and-true}
use Prim.Native.Nat.{ℕ, ◌^◌, ◌≤◌, ◌<◌}
use lib.Dec.{leb}
use Rattle.sets.specs.Sets.{is_member, IsMember, single, values}
use Rattle.sets.proofs.Members.{member_empty, member_range, member-single}
use Rattle.lists.proofs.TestLaws.{test_cases, le_holds}
use Rattle.sets.proofs.Sameness.{no-member_empty}
use Rattle.sets.proofs.Values.{member_of_listed, listed_of-member}
use Rattle.lists.specs.Lists.{Some, Every}
use Rattle.rules.specs.Rules.{Rule, clause, equality, starting, at_most}
use Rattle.rules.specs.Meaning.{value_at, MeetsAtom, taking, Meets}
use Rattle.rules.specs.Parts.{Part, one_of, no_more_than, MeetsPart, atom_in, equality_parts, parts_of}
use Rattle.lists.proofs.ListLaws.{some_of_listed, listed_of_some, every_of_listed, every_at, some_listed_twice, some_same, every_same, every-over-append, some-over_map, every-over_map, some-decided, every-decided}

-- some of the positions takes the value x
abbrev pub Takes : List ℕ → List ℕ → ℕ → Type 0
Takes a ps x = Some (λ p. value_at a p ≡ x) ps

-- the position has a value in M
abbrev pub ValueIn : List ℕ → ℕ → ℕ → Type 0
ValueIn a m p = IsMember (value_at a p) m

-- an equality is met if each named position has a value in M and each value of M is taken
pub equality_halves : (a : List ℕ) (m : ℕ) (ps : List ℕ) → m < 2 ^ 32
    → Meets a (equality m ps) ↔ (Every (ValueIn a m) ps × Every (Takes a ps) (values m))
equality_halves a m ps h = (forth, back)
  where
    forth : Meets a (equality m ps) → Every (ValueIn a m) ps × Every (Takes a ps) (values m)
    forth meets = (
      every_of_listed (ValueIn a m) ps (λ p t. (meets (value_at a p)).1 (some_of_listed (λ q. value_at a q ≡ value_at a p) t refl)),
      every_of_listed (Takes a ps) (values m) (λ x t. (meets x).0 (member_of_listed m x t)),
    )

    back : Every (ValueIn a m) ps × Every (Takes a ps) (values m) → Meets a (equality m ps)
    back halves x = (λ t. every_at (Takes a ps) halves.1 (listed_of-member m x h t), inside)
      where
        inside : Takes a ps x → IsMember x m
        inside s =
            let found = listed_of_some (λ p. value_at a p ≡ x) ps s in
            subst (λ (y : ℕ). IsMember y m) found.2 (every_at (ValueIn a m) halves.0 found.1)

-- the clause "it is in M" of one position
value_in-clause : (a : List ℕ) (m p : ℕ) → ValueIn a m p ↔ MeetsPart a (one_of (atom_in m p ∷ []))
unfolding atom_in
value_in-clause a m p = (inl, ⊎_elim (λ t. t) absurd)

-- the clause "one of the positions is in {x}"
takes-clause : (a : List ℕ) (ps : List ℕ) (x : ℕ) → (1 ≤ x) × (x ≤ 32) → Takes a ps x ↔ MeetsPart a (one_of (map (atom_in (single x)) ps))
unfolding atom_in
takes-clause a ps x range =
    Iff.trans
    (some_same (λ p. value_at a p ≡ x) (λ p. MeetsAtom a (atom_in (single x) p)) ps
    (λ p t. (λ e. (member-single x (value_at a p)).1 (range.0, range.1, e), λ u. ((member-single x (value_at a p)).0 u).2)))
    (Iff.symm (some-over_map (MeetsAtom a) (atom_in (single x)) ps))

-- an equality means its clauses
pub equality_means_clauses : (a : List ℕ) (m : ℕ) (ps : List ℕ) → m < 2 ^ 32 → Meets a (equality m ps) ↔ Every (MeetsPart a) (parts_of (equality m ps))
unfolding parts_of equality_parts
equality_means_clauses a m ps h =
    Iff.trans (equality_halves a m ps h)
    (Iff.trans (Iff.and first second)
    (Iff.symm (every-over-append (MeetsPart a) (map (λ p. one_of (atom_in m p ∷ [])) ps) (map (λ x. one_of (map (atom_in (single x)) ps)) (values m)))))
  where
    each : (P : ℕ → Type 0) (part : ℕ → Part) (xs : List ℕ) → ((x : ℕ) → Memᴰ x xs → P x ↔ MeetsPart a (part x)) → Every P xs ↔ Every (MeetsPart a) (map part xs)
    each P part xs same = Iff.trans (every_same P (λ x. MeetsPart a (part x)) xs same) (Iff.symm (every-over_map (MeetsPart a) part xs))

    first : Every (ValueIn a m) ps ↔ Every (MeetsPart a) (map (λ p. one_of (atom_in m p ∷ [])) ps)
    first = each (ValueIn a m) (λ p. one_of (atom_in m p ∷ [])) ps (λ p t. value_in-clause a m p)

    second : Every (Takes a ps) (values m) ↔ Every (MeetsPart a) (map (λ x. one_of (map (atom_in (single x)) ps)) (values m))
    second = each (Takes a ps) (λ x. one_of (map (atom_in (single x)) ps)) (values m) (λ x t. takes-clause a ps x (member_range x m h (member_of_listed m x t)))

-- the set of an equality is a mask; the other rules ask for nothing
abbrev pub MaskFits : Rule → Type 0
MaskFits (clause atoms) = Unit {0}
MaskFits (equality m ps) = m < 2 ^ 32
MaskFits (starting atom) = Unit {0}
MaskFits (at_most k m ps) = Unit {0}

-- a rule means its parts
pub rule_means-parts : (a : List ℕ) (r : Rule) → MaskFits r → Meets a r ↔ Every (MeetsPart a) (parts_of r)
unfolding parts_of
rule_means-parts a (clause atoms) h = Iff.symm and-true
rule_means-parts a (equality m ps) h = equality_means_clauses a m ps h
rule_means-parts a (starting atom) h = (λ t. (inl t, tt), λ met. ⊎_elim (λ t. t) absurd met.0)
rule_means-parts a (at_most k m ps) h = Iff.symm and-true

-- an equality of no values over no positions is met
pub no-positions_empty : (a : List ℕ) → Meets a (equality 0 [])
no-positions_empty a x = (member_empty x, absurd)

-- an equality of some values over no positions is not met
pub no-positions_some : (a : List ℕ) (m : ℕ) → m < 2 ^ 32 → (m ≡ 0 → ⊥) → Meets a (equality m []) → ⊥
no-positions_some a m h apart meets = apart (no-member_empty m (λ x. (meets x).0))

-- a position that is named twice changes nothing
pub named_twice_lem : (a : List ℕ) (m p : ℕ) (ps : List ℕ) → Memᴰ p ps → Meets a (equality m (p ∷ ps)) ↔ Meets a (equality m ps)
named_twice_lem a m p ps t = (λ meets x. Iff.trans (meets x) (twice x), λ meets x. Iff.trans (meets x) (Iff.symm (twice x)))
  where
    twice : (x : ℕ) → Takes a (p ∷ ps) x ↔ Takes a ps x
    twice x = some_listed_twice (λ q. value_at a q ≡ x) t

-- the empty clause is not met
pub empty-clause : (a : List ℕ) → Meets a (clause []) → ⊥
empty-clause a s = s

-- an assignment meets a part or does not
pub part-decided : (a : List ℕ) (part : Part) → MeetsPart a part ⊎ (MeetsPart a part → ⊥)
part-decided a (one_of atoms) = some-decided (MeetsAtom a) (λ atom. test_cases (is_member (value_at a atom.position) atom.set)) atoms
part-decided a (no_more_than k m ps) =
    let few = le_holds (taking a m ps) k in
    ⊎_map few.0 (λ none h. none (few.1 h)) (test_cases (leb (taking a m ps) k))

-- an assignment meets a rule or does not
pub meets-decided : (a : List ℕ) (r : Rule) → MaskFits r → Meets a r ⊎ (Meets a r → ⊥)
meets-decided a r h =
    let means = rule_means-parts a r h in
    ⊎_map means.1 (λ none meets. none (means.0 meets)) (every-decided (MeetsPart a) (part-decided a) (parts_of r))
