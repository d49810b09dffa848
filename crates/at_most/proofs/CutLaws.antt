-- The rooms of named positions cut one by one: `CutsLeft`, from `cuts_start` over `cuts-kept` and `cuts_made` to `cuts_end`. Assumes nothing.
use mathlib.Core.Path.{◌≡◌, sym, ap, ◌∙◌, subst}
use mathlib.Core.Bool.{Bool, true, false}
use mathlib.Core.List.{List, [], ◌∷◌}
use Prim.Native.Nat.{ℕ}
use lib.Dec.{T}
use lib.ListN.{length}
use Rattle.sets.specs.Sets.{common, complement, inside, beside}
use Rattle.lists.proofs.TestLaws.{true_test}
use Rattle.rooms.specs.Held.{Held, with_box}
use Rattle.steps.specs.Boxes.{room_at, with_room}
use Rattle.steps.specs.Shrinking.{cut_one, cut_others}
use Rattle.steps.proofs.Looks.CutOthers.{one_kept, one-cut, cut-length}

-- the rooms of some positions were cut: cutting those of the positions that are left gives what cutting all of them gives; the rest is as it was
pub record CutsLeft (all left : List ℕ) (m : ℕ) (start rooms : Held) : Type 0 where
  pub cuts : cut_others m left rooms.box ≡ cut_others m all start.box
  pub rest : rooms.rest ≡ start.rest

module _ {all left : List ℕ} {m : ℕ} {start rooms : Held} (going : CutsLeft all left m start rooms) where
  -- there are as many rooms
  pub cuts-length : length rooms.box ≡ length start.box
  cuts-length = sym (cut-length m left rooms.box) ∙ ap length going.cuts ∙ cut-length m all start.box

  -- where none is left they are what cutting all of them leaves
  pub cuts_end : left ≡ [] → rooms ≡ with_box (cut_others m all start.box) start
  unfolding cut_others
  cuts_end none = λ i. record { box = (sym (ap (λ (ps : List ℕ). cut_others m ps rooms.box) none) ∙ going.cuts) i; rest = going.rest i }

  module _ {p : ℕ} {more : List ℕ} (next : left ≡ p ∷ more) {inner : Bool} (within : inner ≡ inside (room_at rooms.box p) m) where
    -- the next position is cut first
    cut_first : cut_others m more (cut_one m p rooms.box) ≡ cut_others m all start.box
    unfolding cut_others
    cut_first = sym (ap (λ (ps : List ℕ). cut_others m ps rooms.box) next) ∙ going.cuts

    -- a room inside the set stays
    pub cuts-kept : inner ≡ true → {after : Held} → after ≡ rooms → CutsLeft all more m start after
    cuts-kept e kept = subst (λ (held : Held). CutsLeft all more m start held) (sym kept) (record { cuts = sym (ap (cut_others m more) (one_kept m p rooms.box (true_test _ (sym within ∙ e)))) ∙ cut_first; rest = going.rest })

    -- any other becomes what it shares with the values outside
    pub cuts_made : inner ≡ false → {outside shared : ℕ} {after : Held} → outside ≡ complement 32 m → shared ≡ common (room_at rooms.box p) outside
        → after ≡ with_box (with_room rooms.box p shared) rooms → CutsLeft all more m start after
    unfolding beside room_at with_room
    cuts_made e {outside} {shared} off is put = subst (λ (held : Held). CutsLeft all more m start held) (sym put) (record {
      cuts = ap (cut_others m more) (ap (with_room rooms.box p) (is ∙ ap (common (room_at rooms.box p)) off) ∙ sym (one-cut m p rooms.box (λ t. subst T (sym within ∙ e) t))) ∙ cut_first;
      rest = going.rest;
    })
