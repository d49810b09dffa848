-- The fields of a sound file, as they are gone through: they are those of the file that was read, and the content of each is whole atoms or positions, `frames_sound`. Assumes nothing.
use mathlib.Core.Path.{◌≡◌, refl, sym, ap, ap₂, ◌∙◌, subst}
use native.Mathlib.Decide.{dec_lt}
use mathlib.Core.List.{List, ◌∷◌, map}
use Prim.Native.Nat.{ℕ, zero, suc, ◌+◌, ◌/◌, ◌≤◌, ◌<◌}
use native.Mathlib.Omega.{arith}
use lib.Dec.{T}
use lib.ListN.{length, take, drop, length-drop}
use lib.Seq.{get_or-take, drop-drop}
use Rattle.std.proofs.lemmas.List.{length-take-le}
use Rattle.lists.specs.Lists.{Every}
use Rattle.lists.proofs.TakeDrop.{rest_part}
use Rattle.rules.specs.declared.field.Tag.{Tag}
use Rattle.rules.specs.declared.field.Tag.TheVariants.{Header, Clause, Equality, Starting, AtMost, Unknown}
use Rattle.rules.specs.Rules.{Rule, Field, clause, equality, starting, at_most}
use Rattle.rules.specs.Reading.{tag_of, head_of, content_of, rule_of, rule_at, size_of}
use Rattle.rules.specs.Contents.{AtomsFit, PositionsFit, ContentFits}
use Rattle.rules.specs.Sound.{fields_in, SoundInput}
use Rattle.rules.specs.Walk.{Walk}
use Rattle.rules.specs.Each.{Framed, is_whole, frame_of, frames_of, frames_in, as_field, FrameFits}
use Rattle.rules.proofs.Reading.TakenLaws.{set_at-taken, atom_taken, atoms_taken, all_behind}
use Rattle.rules.proofs.Reading.EachLaws.{on_none, on_whole, whole_there, whole_where}
use Rattle.rules.proofs.Reading.WalkLaws.{FieldHere, walk_start, walk_field, walk_end}

-- ---- a content that is cut to its length

module _ (v len : ℕ) (content : List ℕ) (there : len ≤ length content) where
  -- it is as long as that
  cut-length : length (take len content) ≡ len
  cut-length = length-take-le len content there

  -- it is the same atoms or positions
  cut_fits : (kind : Tag) → ContentFits kind v len content → ContentFits kind v len (take len content)
  cut_fits Clause fits = record {
    whole = fits.whole;
    there = omega (arith, cut-length);
    few = fits.few;
    fit = subst (AtomsFit v) (sym (atoms_taken (len / 5) len content (omega arith))) fits.fit;
  }
  cut_fits Equality (long, fits) = (
    long,
    record {
      there = omega (arith, cut-length, length-drop 4 (take len content));
      few = fits.few;
      fit = subst (PositionsFit v) (sym (all_behind 4 len content long)) fits.fit;
    },
  )
  cut_fits Starting (five, fits) = (
    five,
    record {
      whole = fits.whole;
      there = omega (arith, cut-length);
      few = fits.few;
      fit = subst (AtomsFit v) (sym (atoms_taken (len / 5) len content (omega arith))) fits.fit;
    },
  )
  cut_fits AtMost (long, fits) = (
    long,
    record {
      there = omega (arith, cut-length, length-drop 5 (take len content));
      few = fits.few;
      fit = subst (PositionsFit v) (sym (all_behind 5 len content long)) fits.fit;
    },
  )
  cut_fits Header fits = absurd fits
  cut_fits Unknown fits = absurd fits

  -- and the same rule
  cut_rule : (kind : Tag) → ContentFits kind v len content → rule_of kind len (take len content) ≡ rule_of kind len content
  unfolding rule_of
  cut_rule Clause fits = ap clause (atoms_taken (len / 5) len content (omega arith))
  cut_rule Equality (long, fits) = ap₂ equality (set_at-taken len 0 content (omega arith)) (all_behind 4 len content long)
  cut_rule Starting (five, fits) = ap starting (atom_taken len content (omega arith))
  cut_rule AtMost (long, fits) =
      λ i. at_most (get_or-take len content 0 0 (omega arith) i) (set_at-taken len 1 content (omega arith) i) (all_behind 5 len content long i)
  cut_rule Header fits = absurd fits
  cut_rule Unknown fits = absurd fits

-- ---- the fields from a place on

-- so many of the fields from a place on are those that are left of the file
pub record Framing (v : ℕ) (frames : List Framed) (left : List Field) : Type 0 where
  pub fields : map as_field frames ≡ left
  pub fit : Every (FrameFits v) frames

-- the field at the front of what is left, as it is framed, is the first of these, and its content fits
module _ {s : List ℕ} {v at : ℕ} {left : List Field} (walk : Walk s v at left) (before : at < length s) where
  here : FieldHere s v at left (head_of (drop at s)) (drop (at + 3) s)
  here = subst (FieldHere s v at left (head_of (drop at s))) (rest_part (at + 3) s) (walk_field walk before refl)

  content_is : drop (at + 3) s ≡ content_of (drop at s)
  unfolding content_of
  content_is = sym (drop-drop 3 at s)

  content_there : (head_of (drop at s)).length ≤ length (content_of (drop at s))
  content_there = subst (λ (content : List ℕ). (head_of (drop at s)).length ≤ length content) content_is here.there

  content_fits_here : ContentFits (tag_of (head_of (drop at s)).tag) v (head_of (drop at s)).length (content_of (drop at s))
  content_fits_here =
      subst (ContentFits (tag_of (head_of (drop at s)).tag) v (head_of (drop at s)).length) content_is (here.fits (tag_of (head_of (drop at s)).tag) refl)

  -- it stands whole
  stands_whole : T (is_whole (drop at s))
  unfolding size_of
  stands_whole = whole_where (drop at s) (omega (arith, here.ends, length-drop at s)) (omega (arith, here.ends, length-drop at s))

  framed_fits : FrameFits v (frame_of at (drop at s))
  unfolding frame_of
  framed_fits =
      let kind = tag_of (head_of (drop at s)).tag in
      let len = (head_of (drop at s)).length in
      subst (λ (k : ℕ). ContentFits kind v k (take len (content_of (drop at s)))) (sym (cut-length v len (content_of (drop at s)) content_there))
      (cut_fits v len (content_of (drop at s)) content_there kind content_fits_here)

  framed_rule : as_field (frame_of at (drop at s)) ≡ record { place = at; rule = rule_at (drop at s) }
  unfolding frame_of rule_at
  framed_rule =
      let kind = tag_of (head_of (drop at s)).tag in
      let len = (head_of (drop at s)).length in
      let content = content_of (drop at s) in
      ap (λ (r : Rule). record { place = at; rule = r })
      (ap (λ (k : ℕ). rule_of kind k (take len content)) (cut-length v len content content_there) ∙ cut_rule v len content content_there kind content_fits_here)

  -- the walk goes on behind it
  walk_behind : Walk s v (at + size_of (drop at s)) here.later
  unfolding size_of
  walk_behind = here.on (at + size_of (drop at s)) (omega arith)

  -- so where those behind it are the later ones, it and those are what is left
  with_first : (k : ℕ) → Framing v (frames_of k (at + size_of (drop at s)) (drop (at + size_of (drop at s)) s)) here.later → Framing v (frames_of (suc k) at (drop at s)) left
  with_first k later = subst (λ (fs : List Framed). Framing v fs left) (sym one) (record { fields = ap₂ (λ (f : Field) (fs : List Field). f ∷ fs) framed_rule later.fields ∙ sym here.first; fit = (framed_fits, later.fit) })
    where
      one : frames_of (suc k) at (drop at s) ≡ frame_of at (drop at s) ∷ frames_of k (at + size_of (drop at s)) (drop (at + size_of (drop at s)) s)
      one =
          on_whole k at (drop at s) stands_whole
          ∙ ap (λ (bytes : List ℕ). frame_of at (drop at s) ∷ frames_of k (at + size_of (drop at s)) bytes) (drop-drop (size_of (drop at s)) at s)

-- at the end there is none
none_left : (k : ℕ) {s : List ℕ} {v at : ℕ} {left : List Field} → Walk s v at left → length s ≤ at → Framing v (frames_of k at (drop at s)) left
none_left k {s} {v} {at} {left} walk past =
    subst (λ (fs : List Framed). Framing v fs left)
    (sym (on_none k at (drop at s) (λ t. let there = whole_there (drop at s) t in omega (arith, there, length-drop at s))))
    (record { fields = sym (walk_end walk past); fit = tt })

-- so many steps as there are bytes find all fields that are left
frames_walk : (k : ℕ) {s : List ℕ} {v at : ℕ} {left : List Field} → Walk s v at left → length s ≤ at + k → Framing v (frames_of k at (drop at s)) left
frames_walk zero walk few = none_left zero walk (omega arith)
frames_walk (suc k) {s} {v} {at} {left} walk few = by_end (dec_lt at (length s)) (λ before. frames_walk k (walk_behind walk before) (further before))
  where
    further : (before : at < length s) → length s ≤ at + size_of (drop at s) + k
    further before = let there = whole_there (drop at s) (stands_whole walk before) in omega (arith, there)

    by_end : Dec (at < length s) → ((before : at < length s) → Framing v (frames_of k (at + size_of (drop at s)) (drop (at + size_of (drop at s)) s)) (here walk before).later)
        → Framing v (frames_of (suc k) at (drop at s)) left
    by_end (yes before) on = with_first walk before k (on before)
    by_end (no past) on = none_left (suc k) walk (omega arith)

-- all fields of a sound file, as they are gone through
pub frames_sound : {s : List ℕ} {v : ℕ} → SoundInput s v → Framing v (frames_in s) (fields_in s)
frames_sound {s} input = frames_walk (length (drop 5 s)) (walk_start input) (omega (arith, length-drop 5 s))
