-- The laws of a walk over a sound input: it starts behind the header, `walk_start`; before the end stands a field, `walk_field`, whose head is there, `walk-head`; at the end nothing is left, `walk_end`. Assumes nothing.
use mathlib.Core.Path.{◌≡◌, refl, sym, ap, ◌∙◌, subst₂}
use mathlib.Core.List.{List, [], ◌∷◌}
use Prim.Native.Nat.{ℕ, ◌+◌, ◌-◌, ◌≤◌, ◌<◌}
use native.Mathlib.Omega.{arith}
use lib.ListN.{length, take, drop, length-drop}
use lib.Seq.{drop-drop}
use Rattle.rules.specs.declared.field.Head.{Head}
use Rattle.rules.specs.declared.field.Tag.{Tag}
use Rattle.rules.specs.Rules.{Field, File}
use Rattle.rules.specs.Reading.{Reading, sound, tag_of, head_of, content_of, rule_of, rule_at, fault_after, header_fault, size_of, seen_with, read_fields, reading}
use Rattle.rules.specs.Writing.{placed, fields_of}
use Rattle.rules.specs.Contents.{ContentFits}
use Rattle.rules.specs.Sound.{file_of, fields_in, SoundInput}
use Rattle.rules.specs.Walk.{Walk}
use Rattle.lists.proofs.TakeDrop.{rest_part}
use Rattle.rules.proofs.Reading.ContentLaws.{content_fits}
use Rattle.rules.proofs.Reading.FaultlessLaws.{SoundField, SoundHeader, fault_after-none, header_fault-none}
use Rattle.rules.proofs.Reading.FieldByField.{refuse_for-sound, with_rule-sound, read_on, read_end}
use Rattle.rules.proofs.Reading.RefusalLaws.{read_limits}
use Rattle.rules.proofs.Writing.WrittenLaws.{size_of-read}

-- ---- a sound input

module _ (s : List ℕ) (v : ℕ) (input : SoundInput s v) where
  -- its header has no fault
  sound_header : SoundHeader s
  unfolding reading
  sound_header = (header_fault-none s).0 (refuse_for-sound (header_fault s) 0 _ (file_of (reading s)) input.read).0

  -- it has 1 to 64 positions, and bytes for the header
  pub sound_limits : (1 ≤ v) × (v ≤ 64) × (5 ≤ length s)
  unfolding content_of
  sound_limits =
      let header = sound_header in
      let same = (read_limits s (file_of (reading s)) input.read).0 in
      omega (arith, input.positions, length-drop 3 s)

  -- and 1 to 32 values
  pub sound-values : (1 ≤ (file_of (reading s)).n) × ((file_of (reading s)).n ≤ 32)
  sound-values =
      let header = sound_header in
      let same = (read_limits s (file_of (reading s)) input.read).1 in
      omega arith

-- ---- the start and the end

-- behind the header stand the fields of the file
pub walk_start : {s : List ℕ} {v : ℕ} → SoundInput s v → Walk s v 5 (fields_in s)
unfolding reading fields_in fields_of
walk_start {s} {v} input =
    let limits = sound_limits s v input in
    let file = file_of (reading s) in
    let same = read_limits s file input.read in
    let behind = (refuse_for-sound (header_fault s) 0 _ file input.read).1 in
    record {
      few = limits.1;
      within = limits.2;
      seen = 0;
      rules = file.rules;
      read =
          subst₂ (λ (k m : ℕ). read_fields (length s) k m 0 5 (drop 5 s) ≡ sound (record { v = v; n = file.n; rules = file.rules }))
          (sym same.0 ∙ input.positions) (sym same.1) (behind ∙ ap (λ (k : ℕ). sound (record { v = k; n = file.n; rules = file.rules })) input.positions);
      fields = refl;
    }

-- at the end nothing is left
pub walk_end : {s : List ℕ} {v at : ℕ} {left : List Field} → Walk s v at left → length s ≤ at → left ≡ []
unfolding placed file_of
walk_end {s} {v} {at} walk past =
    let n = (file_of (reading s)).n in
    walk.fields ∙ ap (λ (r : Reading). placed at (file_of r).rules) (sym walk.read ∙ read_end v n walk.seen at s past)

-- ---- the field at a place

-- the bytes from a place on, as the part of the slice that they are
abbrev pub part_from : ℕ → List ℕ → List ℕ
part_from k s = take (length s - k) (drop k s)

-- of the fields that are left the first has this head, and this content behind it; the walk goes on behind that
pub record FieldHere (s : List ℕ) (v at : ℕ) (left : List Field) (head : Head) (content : List ℕ) : Type 0 where
  pub later : List Field
  pub first : left ≡ record { place = at; rule = rule_at (drop at s) } ∷ later
  pub ends : at + 3 + head.length ≤ length s
  pub there : head.length ≤ length content
  pub rule : (kind : Tag) → tag_of head.tag ≡ kind → rule_at (drop at s) ≡ rule_of kind head.length content
  pub fits : (kind : Tag) → tag_of head.tag ≡ kind → ContentFits kind v head.length content
  pub on : (next : ℕ) → next ≡ at + 3 + head.length → Walk s v next later

module _ {s : List ℕ} {v at : ℕ} {left : List Field} (walk : Walk s v at left) (before : at < length s) where
  -- what was read is a rule and a file behind it
  step : (later : File) × (read_fields (length s) v (file_of (reading s)).n (seen_with (rule_at (drop at s)) walk.seen) (at + size_of (drop at s)) (drop (at + size_of (drop at s)) s) ≡ sound later)
      × ◌≡◌ {A = File} (record { v = later.v; n = later.n; rules = rule_at (drop at s) ∷ later.rules }) (record { v = v; n = (file_of (reading s)).n; rules = walk.rules })
      × (fault_after v (file_of (reading s)).n walk.seen (drop at s) ≡ 0)
  step =
      let n = (file_of (reading s)).n in
      let file : File = record { v = v; n = n; rules = walk.rules } in
      let went = refuse_for-sound (fault_after v n walk.seen (drop at s)) at _ file (sym (read_on v n walk.seen at s before) ∙ walk.read) in
      let found = with_rule-sound (rule_at (drop at s)) _ file went.1 in
      (found.0, found.1, found.2, went.0)

  -- the field that stands there has no fault
  pub field-sound : SoundField v (file_of (reading s)).n (drop at s)
  field-sound = ((fault_after-none v (file_of (reading s)).n walk.seen (drop at s)).0 step.3).0

  field-read : FieldHere s v at left (head_of (drop at s)) (drop (at + 3) s)
  unfolding placed size_of content_of rule_at
  field-read =
      let n = (file_of (reading s)).n in
      let field = field-sound in
      let bytes = drop at s in
      let later = step.0 in
      let size = size_of-read v n bytes field in
      let behind = drop-drop 3 at s in
      record {
        later = placed (at + size_of bytes) later.rules;
        first =
            walk.fields ∙ ap (λ (f : File). placed at f.rules) (sym step.2)
            ∙ ap (λ (k : ℕ). record { place = at; rule = rule_at bytes } ∷ placed (at + k) later.rules) (sym size);
        ends = omega (arith, field.head_there, field.content_there, length-drop at s, length-drop 3 bytes);
        there = omega (arith, field.content_there, ap length behind);
        rule = λ kind e. ap (λ (k : Tag). rule_of k (head_of bytes).length (drop 3 bytes)) e ∙ ap (rule_of kind (head_of bytes).length) behind;
        fits = λ kind e.
            subst₂ (λ (k : Tag) (content : List ℕ). ContentFits k v (head_of bytes).length content) e behind
            (content_fits v n (tag_of (head_of bytes).tag) (head_of bytes).length (drop 3 bytes) walk.few
            field.tag_fits field.length_fits field.content_there field.rule_faultless);
        on = λ next e.
            let same : next ≡ at + size_of bytes = omega arith in
            record {
              few = walk.few;
              within = omega (arith, field.head_there, field.content_there, length-drop at s, length-drop 3 bytes);
              seen = seen_with (rule_at bytes) walk.seen;
              rules = later.rules;
              read =
                  ap (λ (k : ℕ). read_fields (length s) v n (seen_with (rule_at bytes) walk.seen) k (drop k s)) same ∙ step.1
                  ∙ (λ i. sound (record { v = (step.2 i).v; n = (step.2 i).n; rules = later.rules }));
              fields = ap (λ (k : ℕ). placed k later.rules) (sym same);
            };
      }

  -- its head lies within the bytes
  pub walk-head : at + 3 ≤ length s
  walk-head = omega (arith, field-read.ends)

  -- what is known of it, where its head was read
  pub walk_field : {head : Head} → head ≡ head_of (drop at s) → FieldHere s v at left head (part_from (at + 3) s)
  walk_field e = subst₂ (λ (h : Head) (content : List ℕ). FieldHere s v at left h content) (sym e) (sym (rest_part (at + 3) s)) field-read
