-- The search follows its tree, and what it calls on both halves is the search again: `searched_equation`. Assumes nothing.
use mathlib.Core.Path.{◌≡◌, sym, ap₂, ◌∙◌, fun_ext}
use mathlib.Core.Bool.{Bool}
use mathlib.Core.List.{List}
use Prim.Native.Nat.{ℕ, zero, suc, ◌+◌, ◌<◌}
use native.Mathlib.Omega.{arith}
use lib.Dec.{leb}
use Rattle.rules.specs.Rules.{Field}
use Rattle.steps.specs.Boxes.{open_values, Rooms, smallest_of}
use Rattle.steps.specs.Shrinking.{dead, shrunk}
use Rattle.steps.specs.Reply.{Reply, plan, none}
use Rattle.steps.specs.Search.{turn, search, nowhere, searched, never, explored}
use Rattle.steps.proofs.Looks.FittingRules.{FitsBox}
use Rattle.steps.proofs.Search.Split.{split}
use Rattle.steps.proofs.Search.Tree.{Tree, dies, settles, divides, first_smaller, other_smaller, tree}

-- the reply by the tree, with a test of the splits so far that says whether the allowance is spent
abbrev pub walk : {fields : List Field} {box : List ℕ} → Tree fields box → (ℕ → Bool) → ℕ → ℕ → Reply
walk (dies place rooms e) spent s d = none place s (d + 1)
walk (settles {inner = inner} m t) spent s d = plan (smallest_of inner) s d
walk (divides m u at p f o) spent s d = split spent s d (walk f spent (s + 1) d) (walk o spent)

-- a dead box ends a search at once, whatever is allowed
pub search-dead : (fields : List Field) (box : List ℕ) (place : ℕ) → shrunk fields box ≡ dead place
    → (deeper : List ℕ → ℕ → ℕ → Reply) (k : ℕ) (spent : ℕ → Bool) (s d : ℕ) → search deeper (suc k) fields spent box s d ≡ none place s (d + 1)
unfolding search
search-dead fields box place e deeper k spent s d = rw e

-- also without an allowance
pub explored-dead : (fields : List Field) (box : List ℕ) (place : ℕ) → shrunk fields box ≡ dead place → explored fields box ≡ none place 0 1
unfolding explored
explored-dead fields box place e = search-dead fields box place e nowhere _ _ 0 0

module _ {fields : List Field} where
  -- a turn follows the tree where the searches of smaller boxes do
  turn_walks : {box : List ℕ} (t : Tree fields box) (spent : ℕ → Bool) (again : List ℕ → ℕ → ℕ → Reply)
      → ((half : List ℕ) (h : Tree fields half) → open_values half < open_values box → (s d : ℕ) → again half s d ≡ walk h spent s d)
      → (s d : ℕ) → turn fields spent box s d again ≡ walk t spent s d
  turn_walks (dies place rooms e) spent again rest s d = rw e
  turn_walks (settles m t) spent again rest s d = rw (m.shrank, t)
  turn_walks (divides m u at p f o) spent again rest s d =
      rw (m.shrank, u, at)
      (ap₂ (split spent s d) (rest _ f (first_smaller m p).falls (s + 1) d) (fun_ext λ a. fun_ext λ b. rest _ o (other_smaller m p).falls a b))

  -- with more depth than there are open values a search is what its tree gives, whatever it answers any deeper
  pub search_walks : (deeper : List ℕ → ℕ → ℕ → Reply) (k : ℕ) {box : List ℕ} (t : Tree fields box) → open_values box < k → (spent : ℕ → Bool) (s d : ℕ)
      → search deeper k fields spent box s d ≡ walk t spent s d
  unfolding search
  search_walks deeper zero t less spent s d = absurd (omega arith)
  search_walks deeper (suc k) t less spent s d = turn_walks t spent (search deeper k fields spent) (λ half h fewer. search_walks deeper k h (omega arith) spent) s d

  -- so it is with the whole search
  pub searched_walks : {box : List ℕ} (t : Tree fields box) (allowed s d : ℕ) → searched fields allowed box s d ≡ walk t (leb allowed) s d
  unfolding searched
  searched_walks t allowed = search_walks nowhere _ t (omega arith) (leb allowed)

  -- and without an allowance
  pub explored_walks : {box : List ℕ} (t : Tree fields box) → explored fields box ≡ walk t never 0 0
  unfolding explored
  explored_walks t = search_walks nowhere _ t (omega arith) never 0 0

module _ (fields : List Field) (box : List ℕ) (rooms : Rooms box) (fits : FitsBox fields box) where
  -- a search is one turn, in which both halves are searched again
  pub searched_equation : (allowed s d : ℕ) → searched fields allowed box s d ≡ turn fields (leb allowed) box s d (searched fields allowed)
  searched_equation allowed s d =
      let t = tree fields box rooms fits in
      searched_walks t allowed s d ∙ sym (turn_walks t (leb allowed) (searched fields allowed) (λ half h less. searched_walks h allowed) s d)

  -- What a search answers where its depth runs out never matters: with more depth than there are open values, whatever it answers any deeper and however much
  -- depth it has, it gives the same.
  pub depth-never_matters : (deeper other : List ℕ → ℕ → ℕ → Reply) (k j : ℕ) → open_values box < k → open_values box < j → (spent : ℕ → Bool) (s d : ℕ)
      → search deeper k fields spent box s d ≡ search other j fields spent box s d
  depth-never_matters deeper other k j hk hj spent s d =
      let t = tree fields box rooms fits in
      search_walks deeper k t hk spent s d ∙ sym (search_walks other j t hj spent s d)
