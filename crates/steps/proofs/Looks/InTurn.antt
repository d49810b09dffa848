-- Looks taken one after the other, each at the box that the one before it left: the six laws of each are laws of them all. Assumes nothing.
use mathlib.Core.Path.{◌≡◌, refl, sym, ap, ◌∙◌, subst}
use mathlib.Core.Logic.{◌⊎◌, inl, inr}
use mathlib.Core.Bool.{Bool, true, false, ◌&&◌}
use mathlib.Core.List.{List, [], ◌∷◌, ◌++◌}
use Prim.Native.Nat.{ℕ}
use native.Mathlib.Omega.{arith}
use lib.Dec.{T}
use lib.ListN.{length}
use Rattle.lists.specs.Lists.{Some, Every}
use Rattle.steps.specs.Boxes.{BoxInside, Rooms}
use Rattle.steps.specs.Shrinking.{Look, dead, alive, if_alive, in_turn, all_of}
use Rattle.lists.proofs.ListLaws.{some_of_listed, listed_of_some, every_at, every_with_some, every_same}
use Rattle.lists.proofs.TestLaws.{both_hold}
use Rattle.steps.proofs.Looks.SixLaws.{Sound, Inward, Settling, Steady, Monotone, NotLive, Names}
use Rattle.steps.proofs.Boxes.BoxLaws.{box-inside-length, box-inside_refl, box-inside_trans, box-inside_antisymmetric}

-- ---- what is said of a look

-- what holds of a box holds of what the look leaves
abbrev pub Keeps : (List ℕ → Type 0) → (List ℕ → Look) → Type 0
Keeps Q look = (box box' : List ℕ) → Q box → look box ≡ alive box' → Q box'

-- where it holds of a box, the look is not dead, and it holds of what the look leaves
abbrev pub Spares : (List ℕ → Type 0) → (List ℕ → Look) → Type 0
Spares Q look = (box : List ℕ) → Q box → (box' : List ℕ) × (look box ≡ alive box') × Q box'

-- a look is not both dead and alive
pub dead-not-alive : (l : Look) (p : ℕ) (box : List ℕ) → l ≡ dead p → l ≡ alive box → ⊥
dead-not-alive l p box d a = let z : ◌≡◌ {A = ℕ} 0 1 = cc in omega arith

-- a look finds one box
pub alive_once : (l : Look) (b c : List ℕ) → l ≡ alive b → l ≡ alive c → b ≡ c
alive_once l b c e f = cc

-- a look at one alone
pub in_turn_one : {A : Type 0} (look : A → List ℕ → Look) (x : A) (box : List ℕ) → in_turn look (x ∷ []) box ≡ look x box
unfolding in_turn
in_turn_one look x box = go (look x box)
  where
    go : (l : Look) → (if_alive l (λ p. dead p) λ b. alive b) ≡ l
    go (dead p) = refl
    go (alive b) = refl

-- a look that leaves a smaller box leaves one that lies in all that the first lay in
pub inward-from : (look : List ℕ → Look) (box : List ℕ) → Inward look → Rooms box → Keeps (λ c. BoxInside c box × Rooms c) look
inward-from look box inward rooms b c q e = let i = inward b c q.1 e in (box-inside_trans c b box i.0 q.0, i.1)

-- ---- looks in turn

module _ {A : Type 0} (look : A → List ℕ → Look) where
  -- after a first look that is not dead come the others
  pub in_turn_then : (x : A) (xs : List A) (box b : List ℕ) → look x box ≡ alive b → in_turn look (x ∷ xs) box ≡ in_turn look xs b
  unfolding in_turn
  in_turn_then x xs box b e = rw e

  -- a first look that is dead ends it
  pub in_turn-dead : (x : A) (xs : List A) (box : List ℕ) (p : ℕ) → look x box ≡ dead p → in_turn look (x ∷ xs) box ≡ dead p
  unfolding in_turn
  in_turn-dead x xs box p e = rw e

  -- where the whole is not dead the first look is not
  pub in_turn-first : (x : A) (xs : List A) (box c : List ℕ) → in_turn look (x ∷ xs) box ≡ alive c
      → (b : List ℕ) × (look x box ≡ alive b) × (in_turn look xs b ≡ alive c)
  in_turn-first x xs box c e = go (look x box) refl
    where
      go : (l : Look) → look x box ≡ l → (b : List ℕ) × (look x box ≡ alive b) × (in_turn look xs b ≡ alive c)
      go (dead p) d = absurd (dead-not-alive (in_turn look (x ∷ xs) box) p c (in_turn-dead x xs box p d) e)
      go (alive b) a = (b, a, sym (in_turn_then x xs box b a) ∙ e)

  -- after some looks that are not dead come the others, and after some that are, none
  pub in_turn-append : (xs ys : List A) (box : List ℕ) → in_turn look (xs ++ ys) box ≡ if_alive (in_turn look xs box) (λ p. dead p) (λ b. in_turn look ys b)
  unfolding in_turn
  in_turn-append [] ys box = refl
  in_turn-append (x ∷ xs) ys box = go (in_turn-append xs ys) (look x box)
    where
      After : List A → Look → Look
      After zs l = if_alive l (λ p. dead p) λ b. in_turn look zs b

      go : ((b : List ℕ) → in_turn look (xs ++ ys) b ≡ After ys (in_turn look xs b)) → (l : Look) → After (xs ++ ys) l ≡ After ys (After xs l)
      go rest (dead p) = refl
      go rest (alive b) = rest b

  -- so where some looks are dead, they are with others behind them
  pub in_turn_front : (xs ys : List A) (box : List ℕ) (p : ℕ) → in_turn look xs box ≡ dead p → in_turn look (xs ++ ys) box ≡ dead p
  in_turn_front xs ys box p e = in_turn-append xs ys box ∙ ap (λ (l : Look). if_alive l (λ q. dead q) (λ b. in_turn look ys b)) e

  -- where the looks are dead, one of them is, at some box
  pub in_turn_killed : (xs : List A) (box : List ℕ) (p : ℕ) → in_turn look xs box ≡ dead p → Some (λ x. (b : List ℕ) × (look x b ≡ dead p)) xs
  unfolding in_turn
  in_turn_killed [] box p e = dead-not-alive (alive box) p box e refl
  in_turn_killed (x ∷ xs) box p e = go (in_turn_killed xs) (look x box) refl
    where
      go : ((b : List ℕ) (q : ℕ) → in_turn look xs b ≡ dead q → Some (λ y. (c : List ℕ) × (look y c ≡ dead q)) xs) → (l : Look) → look x box ≡ l
          → ((b : List ℕ) × (look x b ≡ dead p)) ⊎ Some (λ y. (b : List ℕ) × (look y b ≡ dead p)) xs
      go rest (dead q) d = inl (box, d ∙ sym (in_turn-dead x xs box q d) ∙ e)
      go rest (alive b) a = inr (rest b p (sym (in_turn_then x xs box b a) ∙ e))

  -- so the looks name the place that each of them names
  pub in_turn-place : (place : ℕ) → ((x : A) → Names place (look x)) → (xs : List A) → Names place (in_turn look xs)
  in_turn-place place each xs box p e =
      let found = listed_of_some (λ x. (b : List ℕ) × (look x b ≡ dead p)) xs (in_turn_killed xs box p e) in
      each found.0 found.2.0 p found.2.1

  -- what each look keeps, they keep in turn
  pub in_turn_keeps : (Q : List ℕ → Type 0) → ((x : A) → Keeps Q (look x)) → (xs : List A) → Keeps Q (in_turn look xs)
  unfolding in_turn
  in_turn_keeps Q each [] box c q e = subst Q (cc) q
  in_turn_keeps Q each (x ∷ xs) box c q e =
      let f = in_turn-first x xs box c e in
      in_turn_keeps Q each xs f.0 c (each x box f.0 q f.1) f.2

  -- looks that change nothing change nothing in turn
  pub in_turn_unchanged : (xs : List A) (box : List ℕ) → Every (λ x. look x box ≡ alive box) xs → in_turn look xs box ≡ alive box
  unfolding in_turn
  in_turn_unchanged [] box each = refl
  in_turn_unchanged (x ∷ xs) box each = in_turn_then x xs box box each.0 ∙ in_turn_unchanged xs box each.1

  module _ (inward : (x : A) → Inward (look x)) where
    -- looks that leave smaller boxes leave a smaller box in turn
    pub in_turn_inward : (xs : List A) → Inward (in_turn look xs)
    in_turn_inward xs box box' rooms e =
        in_turn_keeps (λ c. BoxInside c box × Rooms c) (λ x. inward-from (look x) box (inward x) rooms) xs box box' (box-inside_refl box, rooms) e

    -- where looks in turn change nothing, none of them does
    pub in_turn_fixed : (xs : List A) (box : List ℕ) → Rooms box → in_turn look xs box ≡ alive box → Every (λ x. look x box ≡ alive box) xs
    in_turn_fixed [] box rooms e = tt
    in_turn_fixed (x ∷ xs) box rooms e =
        let f = in_turn-first x xs box box e in
        let i = inward x box f.0 rooms f.1 in
        let same = box-inside_antisymmetric f.0 box i.0 (in_turn_inward xs f.0 box i.1 f.2).0 in
        (f.1 ∙ ap alive same, in_turn_fixed xs box rooms (ap (in_turn look xs) (sym same) ∙ f.2))

    -- looks that are monotone are so in turn
    pub in_turn_monotone : ((x : A) → Monotone (look x)) → (xs : List A) → Monotone (in_turn look xs)
    unfolding in_turn
    in_turn_monotone each [] b c b' hb hc i e = let same : b ≡ b' = cc in (c, refl, subst (λ (d : List ℕ). BoxInside d c) same i)
    in_turn_monotone each (x ∷ xs) b c b' hb hc i e =
        let f = in_turn-first x xs b b' e in
        let g = each x b c f.0 hb hc i f.1 in
        let r = in_turn_monotone each xs f.0 g.0 b' (inward x b f.0 hb f.1).1 (inward x c g.0 hc g.1).1 g.2 f.2 in
        (r.0, in_turn_then x xs c g.0 g.1 ∙ r.1, r.2)

-- ---- tests of every element

module _ {A : Type 0} (test : A → Bool) (all : List A → Bool) (none : all [] ≡ true) (step : (x : A) (xs : List A) → all (x ∷ xs) ≡ (test x && all xs)) where
  -- where the whole passes, every element does
  pub all-passed : (xs : List A) → T (all xs) → Every (λ x. T (test x)) xs
  all-passed [] t = tt
  all-passed (x ∷ xs) t = let both = (both_hold (test x) (all xs)).0 (subst T (step x xs) t) in (both.0, all-passed xs both.1)

  -- where the whole fails, some element does
  pub one_failed : (xs : List A) → all xs ≡ false → Some (λ x. test x ≡ false) xs
  one_failed [] e = let z : true ≡ false = sym none ∙ e in absurd (subst T z tt)
  one_failed (x ∷ xs) e = go (one_failed xs) (test x) (sym (step x xs) ∙ e)
    where
      go : (all xs ≡ false → Some (λ y. test y ≡ false) xs) → (b : Bool) → (b && all xs) ≡ false → (b ≡ false) ⊎ Some (λ y. test y ≡ false) xs
      go rest true u = inr (rest u)
      go rest false u = inl refl

-- ---- the laws of each are laws of all: of the parts of a rule, and of the fields of a file

module _ {A : Type 0} (Fits : ℕ → A → Type 0) where
  module _ (Met : List ℕ → A → Type 0) where
    -- sound looks are sound in turn
    pub in_turn-sound : (look : A → List ℕ → Look) → ((x : A) → Inward (look x)) → ((x : A) → Sound (λ v. Fits v x) (λ a. Met a x) (look x))
        → (xs : List A) → Sound (λ v. Every (Fits v) xs) (λ a. Every (Met a) xs) (in_turn look xs)
    unfolding in_turn
    in_turn-sound look inward sound [] box a rooms fits h m = (box, refl, h)
    in_turn-sound look inward sound (x ∷ xs) box a rooms fits h m =
        let f = sound x box a rooms fits.0 h m.0 in
        let i = inward x box f.0 rooms f.1 in
        let fit = subst (λ (v : ℕ). Every (Fits v) xs) (sym (box-inside-length f.0 box i.0)) fits.1 in
        let r = in_turn-sound look inward sound xs f.0 a i.1 fit f.2 m.1 in
        (r.0, in_turn_then look x xs box f.0 f.1 ∙ r.1, r.2)

    -- where all are settled, every assignment of the box meets them all
    pub all_settled : (done : List ℕ → A → Bool) → ((x : A) → Settling (λ v. Fits v x) (λ a. Met a x) (λ box. done box x))
        → (xs : List A) → Settling (λ v. Every (Fits v) xs) (λ a. Every (Met a) xs) (λ box. all_of (done box) xs)
    unfolding all_of
    all_settled done each [] box a fits t h = tt
    all_settled done each (x ∷ xs) box a fits t h =
        let both = (both_hold (done box x) (all_of (done box) xs)).0 t in
        (each x box a fits.0 both.0 h, all_settled done each xs box a fits.1 both.1 h)

    -- two assignments of the box that agree at every position that is live in one of them both meet them all or both do not
    pub all-not_live : (Live : A → List ℕ → ℕ → Type 0) → ((x : A) → NotLive (λ v. Fits v x) (λ a. Met a x) (Live x))
        → (xs : List A) → NotLive (λ v. Every (Fits v) xs) (λ a. Every (Met a) xs) (λ box p. Some (λ x. Live x box p) xs)
    all-not_live Live each xs box a b fits ha hb same =
        every_same (Met a) (Met b) xs
        (λ x t. each x box a b (every_at (Fits (length box)) fits t) ha hb (λ p l. same p (some_of_listed (λ y. Live y box p) t l)))

  -- where the looks change nothing and not all are settled, a position live in one of them has two or more values
  pub in_turn_steady : (Live : A → List ℕ → ℕ → Type 0) (look : A → List ℕ → Look) (done : List ℕ → A → Bool) → ((x : A) → Inward (look x))
      → ((x : A) → Steady (λ v. Fits v x) (Live x) (look x) (λ box. done box x))
      → (xs : List A) → Steady (λ v. Every (Fits v) xs) (λ box p. Some (λ x. Live x box p) xs) (in_turn look xs) (λ box. all_of (done box) xs)
  unfolding all_of
  in_turn_steady Live look done inward each xs box rooms fits e u =
      let failed = one_failed (done box) (all_of (done box)) refl (λ x ys. refl) xs u in
      let found = every_with_some (λ x. look x box ≡ alive box) (λ x. done box x ≡ false) xs (in_turn_fixed look inward xs box rooms e) failed in
      let s = each found.0 box rooms (every_at (Fits (length box)) fits found.1) found.2 found.3 in
      (s.0, some_of_listed (λ x. Live x box s.0) found.1 s.1, s.2, s.3, s.4)
