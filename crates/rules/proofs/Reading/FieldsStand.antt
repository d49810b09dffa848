-- Every field of a file that was read stands in the bytes at its place: `fields_stand`. Assumes nothing.
use mathlib.Core.Path.{◌≡◌, refl, sym, ap, ◌∙◌, subst}
use mathlib.Core.List.{List, [], ◌∷◌}
use Prim.Native.Nat.{ℕ, ◌≤◌, ◌<◌}
use native.Mathlib.Decide.{dec_lt}
use native.Mathlib.Omega.{arith}
use lib.ListN.{length, drop}
use Rattle.lists.specs.Lists.{Every}
use Rattle.rules.specs.Rules.{Field, File}
use Rattle.rules.specs.Reading.{head_of, rule_at, sound, reading}
use Rattle.rules.specs.Writing.{fields_of}
use Rattle.rules.specs.Sound.{file_of, fields_in, StandsIn}
use Rattle.rules.specs.Walk.{Walk}
use Rattle.rules.proofs.Reading.ByteLaws.{first-drop}
use Rattle.rules.proofs.Reading.WalkLaws.{walk_start, walk_end, field-sound, walk_field}
use Rattle.rules.proofs.Writing.WrittenLaws.{tag_of_content}

module _ {s : List ℕ} {v : ℕ} where
  -- the field at a place of the walk
  stands_here : {at : ℕ} {left : List Field} (walk : Walk s v at left) → at < length s → 5 ≤ at → StandsIn s (record { place = at; rule = rule_at (drop at s) })
  unfolding head_of
  stands_here {at} walk before low = record {
    behind = low;
    within = before;
    tag = sym (first-drop s at) ∙ sym (tag_of_content v (file_of (reading s)).n (drop at s) (field-sound walk before));
    rule = refl;
  }

  -- all that are left
  walk_stands : (left : List Field) (at : ℕ) → Walk s v at left → 5 ≤ at → Every (StandsIn s) left
  walk_stands [] at walk low = tt
  walk_stands (f ∷ fields) at walk low = go (walk_stands fields) (dec_lt at (length s))
    where
      go : ((next : ℕ) → Walk s v next fields → 5 ≤ next → Every (StandsIn s) fields) → Dec (at < length s) → Every (StandsIn s) (f ∷ fields)
      go rest (yes before) =
          let here = walk_field walk before refl in
          let first : f ≡ record { place = at; rule = rule_at (drop at s) } = cc here.first in
          let later : fields ≡ here.later = cc here.first in
          (subst (StandsIn s) (sym first) (stands_here walk before low), rest _ (subst (Walk s v _) (sym later) (here.on _ refl)) (omega arith))
      go rest (no end) = absurd (omega (arith, ap length (walk_end walk (omega arith))))

-- every field of a file that was read
pub fields_stand : (s : List ℕ) (file : File) → reading s ≡ sound file → Every (StandsIn s) (fields_of file)
unfolding fields_in file_of
fields_stand s file read =
    let same : file_of (reading s) ≡ file = ap file_of read in
    let walk = walk_start (record { read = read ∙ ap sound (sym same); positions = refl }) in
    subst (λ (f : File). Every (StandsIn s) (fields_of f)) same (walk_stands (fields_in s) 5 walk (omega arith))
