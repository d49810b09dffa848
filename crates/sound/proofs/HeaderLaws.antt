-- Laws of the header's tag: the kind that it announces is a header exactly where it is 1, `tag_is-header` and `tag_other`. Assumes nothing.
use mathlib.Core.Path.{◌≡◌, refl, sym, ap, ◌∙◌}
use mathlib.Core.Bool.{Bool, true, false}
use Prim.Native.Nat.{ℕ}
use lib.Dec.{eqb}
use Rattle.rules.specs.declared.field.Tag.{Tag}
use Rattle.rules.specs.declared.field.Tag.TheVariants.{Header, Clause, Equality, Starting, AtMost, Unknown}
use Rattle.rules.specs.Reading.{pick_tag, tag_of}

-- whether a kind is a header
abbrev is_header : Tag → Bool
is_header Header = true
is_header Clause = false
is_header Equality = false
is_header Starting = false
is_header AtMost = false
is_header Unknown = false

-- of two kinds that are none, neither is
neither : (b : Bool) (one other : Tag) → is_header one ≡ false → is_header other ≡ false → is_header (pick_tag b one other) ≡ false
neither true one other e f = e
neither false one other e f = f

-- of a header and another, the test tells
first : (b : Bool) (other : Tag) → is_header other ≡ false → is_header (pick_tag b Header other) ≡ b
first true other f = refl
first false other f = f

header_tag : (tag : ℕ) → is_header (tag_of tag) ≡ eqb tag 1
unfolding tag_of
header_tag tag =
    first (eqb tag 1) _ (neither (eqb tag 2) Clause _ refl (neither (eqb tag 3) Equality _ refl (neither (eqb tag 4) Starting _ refl (neither (eqb tag 5) AtMost Unknown refl refl))))

other_kind : (kind : Tag) → (kind ≡ Header → ⊥) → is_header kind ≡ false
other_kind Header h = absurd (h refl)
other_kind Clause h = refl
other_kind Equality h = refl
other_kind Starting h = refl
other_kind AtMost h = refl
other_kind Unknown h = refl

module _ (tag : ℕ) {kind : Tag} (is : kind ≡ tag_of tag) where
  -- a header has the tag 1
  pub tag_is-header : kind ≡ Header → eqb tag 1 ≡ true
  tag_is-header e = sym (header_tag tag) ∙ ap is_header (sym is ∙ e)

  -- and any other kind has another
  pub tag_other : (kind ≡ Header → ⊥) → eqb tag 1 ≡ false
  tag_other h = sym (header_tag tag) ∙ ap is_header (sym is) ∙ other_kind kind h
