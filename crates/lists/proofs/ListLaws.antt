-- Laws of what holds of some and of every element of a list. Assumes nothing.
use mathlib.Core.Path.{refl, sym, subst}
use mathlib.Core.List.{List, [], ◌∷◌, ◌++◌, map, Memᴰ}
use mathlib.Core.Logic.{◌↔◌, ◌⊎◌, inl, inr, ⊎_elim, ⊎_map}
use Prim.Native.Nat.{ℕ, zero, suc, ◌<◌, zero-le, suc-le-suc}
use native.Mathlib.Nat.{le_of_suc-le-suc, not-suc-le-zero}
use lib.ListN.{length, get_or, set}
use Rattle.lists.specs.Lists.{Some, Every}

module _ {A : Type 0} (P : A → Type 0) where
  -- ---- some and every by the elements that are listed

  -- a listed element with P is some element with P
  pub some_of_listed : {x : A} {xs : List A} → Memᴰ x xs → P x → Some P xs
  some_of_listed (Memᴰ.head e) p = inl (subst P e p)
  some_of_listed (Memᴰ.tail t) p = inr (some_of_listed t p)

  -- where P holds of some element, one with P is listed
  pub listed_of_some : (xs : List A) → Some P xs → (x : A) × Memᴰ x xs × P x
  listed_of_some [] s = absurd s
  listed_of_some (x ∷ xs) (inl p) = (x, Memᴰ.head refl, p)
  listed_of_some (x ∷ xs) (inr s) = let found = listed_of_some xs s in (found.0, Memᴰ.tail found.1, found.2)

  -- P of each listed element is P of every element
  pub every_of_listed : (xs : List A) → ((x : A) → Memᴰ x xs → P x) → Every P xs
  every_of_listed [] f = tt
  every_of_listed (x ∷ xs) f = (f x (Memᴰ.head refl), every_of_listed xs (λ y t. f y (Memᴰ.tail t)))

  -- what holds of every element holds of a listed one
  pub every_at : {x : A} {xs : List A} → Every P xs → Memᴰ x xs → P x
  every_at h (Memᴰ.head e) = subst P (sym e) h.0
  every_at h (Memᴰ.tail t) = every_at h.1 t

  -- an element that is listed already adds nothing
  pub some_listed_twice : {x : A} {xs : List A} → Memᴰ x xs → Some P (x ∷ xs) ↔ Some P xs
  some_listed_twice t = (⊎_elim (some_of_listed t) (λ s. s), inr)

  -- ---- over two lists joined

  -- some element of two lists joined is one of the first or one of the second
  pub some-over-append : (xs ys : List A) → Some P (xs ++ ys) ↔ (Some P xs ⊎ Some P ys)
  some-over-append [] ys = (inr, ⊎_elim absurd (λ s. s))
  some-over-append (x ∷ xs) ys = (forth (some-over-append xs ys).0, back (some-over-append xs ys).1)
    where
      forth : (Some P (xs ++ ys) → Some P xs ⊎ Some P ys) → P x ⊎ Some P (xs ++ ys) → (P x ⊎ Some P xs) ⊎ Some P ys
      forth rest (inl p) = inl (inl p)
      forth rest (inr s) = ⊎_elim (λ t. inl (inr t)) inr (rest s)

      back : (Some P xs ⊎ Some P ys → Some P (xs ++ ys)) → (P x ⊎ Some P xs) ⊎ Some P ys → P x ⊎ Some P (xs ++ ys)
      back rest (inl (inl p)) = inl p
      back rest (inl (inr s)) = inr (rest (inl s))
      back rest (inr s) = inr (rest (inr s))

  -- every element of two lists joined is every element of each
  pub every-over-append : (xs ys : List A) → Every P (xs ++ ys) ↔ (Every P xs × Every P ys)
  every-over-append [] ys = (λ h. (tt, h), λ h. h.1)
  every-over-append (x ∷ xs) ys =
      let rest = every-over-append xs ys in
      (λ h. let r = rest.0 h.1 in ((h.0, r.0), r.1), λ h. (h.0.0, rest.1 (h.0.1, h.1)))

  -- ---- over a list whose elements were mapped

  -- P of some element of a mapped list is P after the map of some element
  pub some-over_map : {B : Type 0} (f : B → A) (xs : List B) → Some P (map f xs) ↔ Some (λ x. P (f x)) xs
  some-over_map f [] = (λ s. s, λ s. s)
  some-over_map f (x ∷ xs) = let rest = some-over_map f xs in (⊎_elim inl (λ s. inr (rest.0 s)), ⊎_elim inl (λ s. inr (rest.1 s)))

  -- P of every element of a mapped list is P after the map of every element
  pub every-over_map : {B : Type 0} (f : B → A) (xs : List B) → Every P (map f xs) ↔ Every (λ x. P (f x)) xs
  every-over_map f [] = (λ h. h, λ h. h)
  every-over_map f (x ∷ xs) = let rest = every-over_map f xs in (λ h. (h.0, rest.0 h.1), λ h. (h.0, rest.1 h.1))

-- ---- from one property to another

module _ {A : Type 0} (P Q : A → Type 0) (xs : List A) where
  -- some element with P is some element with Q where P gives Q for each listed element
  pub some_map_listed : ((x : A) → Memᴰ x xs → P x → Q x) → Some P xs → Some Q xs
  some_map_listed f s = let found = listed_of_some P xs s in some_of_listed Q found.1 (f found.0 found.1 found.2)

  -- P of every element is Q of every element where P gives Q for each listed element
  pub every_map_listed : ((x : A) → Memᴰ x xs → P x → Q x) → Every P xs → Every Q xs
  every_map_listed f h = every_of_listed Q xs (λ x t. f x t (every_at P h t))

  -- some element with P is some element with Q where P gives Q
  pub some_map : ((x : A) → P x → Q x) → Some P xs → Some Q xs
  some_map f = some_map_listed (λ x t. f x)

  -- P of every element is Q of every element where P gives Q
  pub every_map : ((x : A) → P x → Q x) → Every P xs → Every Q xs
  every_map f = every_map_listed (λ x t. f x)

  -- where P holds of every element and Q of some one, both hold of one
  pub every_with_some : Every P xs → Some Q xs → (x : A) × Memᴰ x xs × P x × Q x
  every_with_some h s = let found = listed_of_some Q xs s in (found.0, found.1, every_at P h found.1, found.2)

module _ {A : Type 0} (P Q : A → Type 0) (xs : List A) where
  -- some element has P just where some one has Q, if the two say the same of each listed element
  pub some_same : ((x : A) → Memᴰ x xs → P x ↔ Q x) → Some P xs ↔ Some Q xs
  some_same same = (some_map_listed P Q xs (λ x t. (same x t).0), some_map_listed Q P xs (λ x t. (same x t).1))

  -- every element has P just where every one has Q, if the two say the same of each listed element
  pub every_same : ((x : A) → Memᴰ x xs → P x ↔ Q x) → Every P xs ↔ Every Q xs
  every_same same = (every_map_listed P Q xs (λ x t. (same x t).0), every_map_listed Q P xs (λ x t. (same x t).1))

module _ {A : Type 0} (P : A → Type 0) (xs : List A) where
  -- no element has P where every one lacks it
  pub some_refuted : Every (λ x. P x → ⊥) xs → Some P xs → ⊥
  some_refuted h s = let found = every_with_some (λ x. P x → ⊥) P xs h s in found.2 found.3

  -- not every element has P where some one lacks it
  pub every_refuted : Some (λ x. P x → ⊥) xs → Every P xs → ⊥
  every_refuted s h = let found = every_with_some P (λ x. P x → ⊥) xs h s in found.3 found.2

-- ---- a property that each element has or lacks

module _ {A : Type 0} (P : A → Type 0) (decide : (x : A) → P x ⊎ (P x → ⊥)) where
  -- some element has P, or every one lacks it
  pub some_or_none : (xs : List A) → Some P xs ⊎ Every (λ x. P x → ⊥) xs
  some_or_none [] = inr tt
  some_or_none (x ∷ xs) = ⊎_elim (λ p. inl (inl p)) (λ n. ⊎_map inr (λ h. (n, h)) (some_or_none xs)) (decide x)

  -- every element has P, or some one lacks it
  pub every-or_some : (xs : List A) → Every P xs ⊎ Some (λ x. P x → ⊥) xs
  every-or_some [] = inl tt
  every-or_some (x ∷ xs) = ⊎_elim (λ p. ⊎_map (λ h. (p, h)) inr (every-or_some xs)) (λ n. inr (inl n)) (decide x)

  -- P holds of some element, or it does not
  pub some-decided : (xs : List A) → Some P xs ⊎ (Some P xs → ⊥)
  some-decided xs = ⊎_map (λ s. s) (some_refuted P xs) (some_or_none xs)

  -- P holds of every element, or it does not
  pub every-decided : (xs : List A) → Every P xs ⊎ (Every P xs → ⊥)
  every-decided xs = ⊎_map (λ h. h) (every_refuted P xs) (every-or_some xs)

-- where each element has P or Q, every one has P or some one has Q
pub every-or_other : {A : Type 0} (P Q : A → Type 0) → ((x : A) → P x ⊎ Q x) → (xs : List A) → Every P xs ⊎ Some Q xs
every-or_other P Q each [] = inl tt
every-or_other P Q each (x ∷ xs) = ⊎_elim (λ p. ⊎_map (λ h. (p, h)) inr (every-or_other P Q each xs)) (λ q. inr (inl q)) (each x)

-- one of two sentences holds exactly if one of two others does that say the same
pub either_same : {A B C D : Type 0} → A ↔ C → B ↔ D → (A ⊎ B) ↔ (C ⊎ D)
either_same first second = (⊎_map first.0 second.0, ⊎_map first.1 second.1)

-- ---- lists of numbers, by place

module _ (P : ℕ → Type 0) where
  -- what holds of every element holds at each place
  pub every_at-place : (xs : List ℕ) (i : ℕ) → Every P xs → i < length xs → P (get_or xs i 0)
  every_at-place [] i h l = absurd (not-suc-le-zero l)
  every_at-place (x ∷ xs) zero h l = h.0
  every_at-place (x ∷ xs) (suc i) h l = every_at-place xs i h.1 (le_of_suc-le-suc l)

  -- and what holds at each place holds of every element
  pub every_of_places : (xs : List ℕ) → ((i : ℕ) → i < length xs → P (get_or xs i 0)) → Every P xs
  every_of_places [] h = tt
  every_of_places (x ∷ xs) h = (h 0 (suc-le-suc zero-le), every_of_places xs (λ i l. h (suc i) (suc-le-suc l)))

  -- what holds of every element and of the new one holds of every element afterwards
  pub every_set : (xs : List ℕ) (i x : ℕ) → Every P xs → P x → Every P (set xs i x)
  every_set [] i x h p = tt
  every_set (y ∷ xs) zero x h p = (p, h.1)
  every_set (y ∷ xs) (suc i) x h p = (h.0, every_set xs i x h.1 p)
