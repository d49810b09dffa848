-- The lowest index by an equality, named position by named position: by all of them, `lowest_by-positions`, and by one, `split-found` and `split-passed`. Assumes nothing.
use mathlib.Core.Path.{◌≡◌, sym, ap, ◌∙◌, subst}
use mathlib.Core.Bool.{Bool, true, false}
use mathlib.Core.List.{List, Memᴰ}
use Prim.Native.Nat.{ℕ, ◌-◌, ◌^◌, ◌≤◌, ◌<◌}
use lib.Dec.{T}
use lib.ListN.{length, take, drop}
use Rattle.sets.specs.Sets.{inside, meets}
use Rattle.lists.specs.Lowest.{lowest}
use Rattle.lists.proofs.LowestLaws.{lowest_same}
use Rattle.rules.specs.declared.field.Tag.TheVariants.{Equality}
use Rattle.rules.specs.Reading.{rule_of, set_at}
use Rattle.rules.specs.Rules.{equality}
use Rattle.steps.specs.Boxes.{room_at}
use Rattle.steps.specs.Shrinking.{some_of}
use Rattle.lowest.specs.LowestBy.{splits_by, lowest_by}
use Rattle.lowest.specs.Untaken.{untaken}
use Rattle.lowest.proofs.EqualityParts.{to_meet, splits_of, splits_some}
use Rattle.lowest.proofs.LowestInTurn.{named_at, lowest_of, named-found, passed_over}

-- the positions that a content names, behind its set
abbrev pub positions_of : List ℕ → List ℕ
positions_of content = take (length content - 4) (drop 4 content)

-- the lowest index by the equality that a content is: the lowest of a named position that is left to be split
pub lowest_by-positions : (box content : List ℕ) {m left : ℕ} → m < 2 ^ 32 → m ≡ set_at content 0 → left ≡ untaken box m (positions_of content) → ((p : ℕ) → Memᴰ p (positions_of content) → room_at box p < 2 ^ 32) → (bound : ℕ)
    → lowest_by box (rule_of Equality (length content) content) bound ≡ lowest_of (splits_of box m left) (positions_of content) bound
unfolding rule_of
lowest_by-positions box content {m} {left} low set taken masks bound =
    ap (λ (k : ℕ). lowest_by box (equality k ps) bound) (sym set)
    ∙ lowest_same (splits_by box (equality m ps)) (λ i. some_of (named_at (splits_of box m (untaken box m ps)) i) ps) bound (λ i h. splits_some box m low ps masks i)
    ∙ ap (λ (k : ℕ). lowest_of (splits_of box m k) ps bound) (sym taken)
  where
    ps : List ℕ
    ps = positions_of content

-- ---- one named position

-- the set that its room has to meet, as it is picked
pub picks : (room m left met : ℕ) {b : Bool} → b ≡ inside room m → (c : Bool) → b ≡ c → met ≡ to_meet c m left → met ≡ to_meet (inside room m) m left
picks room m left met e c f g = g ∙ ap (λ (b : Bool). to_meet b m left) (sym f ∙ e)

-- its test, by whether its room meets the set that it has to meet
pub tested : (box : List ℕ) (m left p : ℕ) {room met : ℕ} {passes : Bool} → room ≡ room_at box p → met ≡ to_meet (inside room m) m left → passes ≡ meets room met → passes ≡ splits_of box m left p
tested box m left p {room} here picked is = is ∙ ap (meets room) picked ∙ ap (λ (r : ℕ). meets r (to_meet (inside r m) m left)) here

module _ (box : List ℕ) (m left p low : ℕ) (first : 1 ≤ p) {room met : ℕ} {passes : Bool} (here : room ≡ room_at box p) (picked : met ≡ to_meet (inside room m) m left)
    (is : passes ≡ meets room met) where
  -- where its room meets that set, and its index is lower: its index
  pub split-found : p - 1 < low → passes ≡ true → lowest (λ k. named_at (splits_of box m left) k p) low ≡ p - 1
  split-found = named-found (splits_of box m left) p low first (tested box m left p here picked is)

  -- where it does not, or its index is not lower: the bound
  pub split-passed : (p - 1 < low → passes ≡ false) → lowest (λ k. named_at (splits_of box m left) k p) low ≡ low
  split-passed none = passed_over (splits_of box m left) p low first (tested box m left p here picked is) (λ l t. subst T (sym (tested box m left p here picked is) ∙ none l) t)
