-- Laws of one field: a rule that was written is read back, and a rule that was read is written back. Assumes nothing.
use mathlib.Core.Path.{◌≡◌, refl, sym, ap, ap₂, ◌∙◌}
use mathlib.Core.List.{List, [], ◌∷◌, ◌++◌}
use mathlib.Core.Logic.{◌↔◌}
use Prim.Native.Nat.{ℕ, zero, suc, ◌+◌, ◌-◌, ◌*◌, ◌/◌, ◌≤◌, ◌<◌}
use native.Mathlib.Omega.{arith}
use lib.Dec.{T}
use lib.ListN.{length, get_or, take, drop, length-append, length-drop}
use lib.Seq.{take-append_seam, take-add, length-take-le}
use Rattle.rules.specs.declared.field.Tag.{Tag}
use Rattle.rules.specs.declared.field.Tag.TheVariants.{Header, Clause, Equality, Starting, AtMost, Unknown}
use Rattle.rules.specs.declared.field.Atom.{Atom}
use Rattle.lists.specs.Lists.{Every}
use Rattle.rules.specs.Rules.{Rule, clause, equality, starting, at_most}
use Rattle.rules.specs.Reading.{tag_of, set_at, atom_of, head_of, content_of, atoms_of, rule_of, length_fits, tag_fault, rule_fault, rule_at, size_of}
use Rattle.rules.specs.Writing.{four_bytes, written_atoms, tag_byte, content_bytes, written_rule, RuleFits}
use Rattle.rules.proofs.Reading.ContentLaws.{clause-length, equality-length, starting-length, at_most-length}
use Rattle.rules.proofs.Reading.FaultlessLaws.{tests, clause_fault-none, equality_fault-none, starting_fault-none, at_most_fault-none, SoundField}
use Rattle.rules.proofs.Writing.FrameLaws.{Byte, bytes_drop, byte_at, length_below, set_of-written, set_of-read, tag_cases, framed-length, head_of-framed, content_of-framed, framed_of-read}

-- ---- a rule's tag and content

rule-tag : (r : Rule) → tag_fault (tag_of (tag_byte r)) ≡ 0
unfolding tag_of tag_byte tag_fault
rule-tag (clause atoms) = refl
rule-tag (equality m ps) = refl
rule-tag (starting a) = refl
rule-tag (at_most k m ps) = refl

atoms-length : (atoms : List Atom) → length (written_atoms atoms) ≡ length atoms * 5
unfolding written_atoms four_bytes
atoms-length [] = refl
atoms-length (a ∷ more) = omega (arith, atoms-length more)

written-length : (r : Rule) → length (written_rule r) ≡ 3 + length (content_bytes r)
unfolding written_rule
written-length r = framed-length (tag_byte r) (content_bytes r)

-- a rule takes three bytes or more
pub written_long : (r : Rule) → 3 ≤ length (written_rule r)
written_long r = omega (arith, written-length r)

-- a count is a byte
abbrev CountFits : Rule → Type 0
CountFits (clause atoms) = Unit {0}
CountFits (equality m ps) = Unit {0}
CountFits (starting a) = Unit {0}
CountFits (at_most k m ps) = k < 256

-- within the limits: the length fits the kind and two bytes, the content has no fault, and a count is a byte
rule_fits : (v n : ℕ) (r : Rule)
    → RuleFits v n r ↔ (T (length_fits (tag_of (tag_byte r)) (length (content_bytes r))) × (length (content_bytes r) < 65536) × (rule_fault v n r ≡ 0) × CountFits r)
unfolding tag_of length_fits tag_byte content_bytes four_bytes
rule_fits v n (clause atoms) = simp (tests, clause_fault-none, atoms-length) (λ h. (omega arith, h.0, h.1, tt), λ h. (h.1, h.2))
rule_fits v n (equality m ps) = simp (tests, equality_fault-none) (λ h. (omega arith, omega arith, (h.1, h.2), tt), λ h. (omega arith, h.2.0, h.2.1))
rule_fits v n (starting a) = simp (tests, starting_fault-none, atoms-length) (λ h. (omega arith, omega arith, h, tt), λ h. h.2)
rule_fits v n (at_most k m ps) = simp (tests, at_most_fault-none) (λ h. (omega arith, omega arith, (h.2, h.3, h.4), h.0), λ h. (h.3, omega arith, h.2.0, h.2.1, h.2.2))

-- so a rule within the limits has no fault
pub fits_faultless : (v n : ℕ) (r : Rule) → RuleFits v n r → rule_fault v n r ≡ 0
fits_faultless v n r fits = ((rule_fits v n r).0 fits).2

-- ---- a content that was written is read back

atoms_of-written : (atoms : List Atom) (rest : List ℕ) → atoms_of (length atoms) (written_atoms atoms ++ rest) ≡ atoms
unfolding atoms_of atom_of written_atoms four_bytes set_at
atoms_of-written [] rest = refl
atoms_of-written (a ∷ more) rest =
    ap₂ (λ (m : ℕ) (others : List Atom). record { position = a.position; set = m } ∷ others)
    (set_of-written a.set (written_atoms more ++ rest)) (atoms_of-written more rest)

rule_of_content : (r : Rule) (rest : List ℕ) → rule_of (tag_of (tag_byte r)) (length (content_bytes r)) (content_bytes r ++ rest) ≡ r
unfolding tag_of rule_of tag_byte content_bytes written_atoms four_bytes atom_of set_at
rule_of_content (clause atoms) rest =
    let number : length (written_atoms atoms) / 5 ≡ length atoms = omega (arith, atoms-length atoms) in
    rw (number, atoms_of-written)
rule_of_content (equality m ps) rest =
    let number : length (four_bytes m ++ ps) - 4 ≡ length ps = omega arith in
    rw (number, take-append_seam ps rest, set_of-written m (ps ++ rest))
rule_of_content (at_most k m ps) rest =
    let number : length (k ∷ four_bytes m ++ ps) - 5 ≡ length ps = omega arith in
    rw (number, take-append_seam ps rest, set_of-written m (ps ++ rest))
rule_of_content (starting a) rest = ap (λ (m : ℕ). starting (record { position = a.position; set = m })) (set_of-written a.set rest)

-- ---- a content that was read is written back

atom_of-read : (bytes : List ℕ) → Every Byte bytes → 5 ≤ length bytes → (atom_of bytes).position ∷ four_bytes (atom_of bytes).set ≡ take 5 bytes
unfolding atom_of set_at
atom_of-read [] small h = absurd (omega arith)
atom_of-read (p ∷ bytes) small h = ap (λ (l : List ℕ). p ∷ l) (set_of-read bytes (omega arith) small.1)

atoms_of-read : (k : ℕ) (bytes : List ℕ) → Every Byte bytes → k * 5 ≤ length bytes → written_atoms (atoms_of k bytes) ≡ take (k * 5) bytes
unfolding atoms_of written_atoms
atoms_of-read zero bytes small h = refl
atoms_of-read (suc k) bytes small h =
    let e : 5 + k * 5 ≡ suc k * 5 = omega arith in
    ap₂ (λ (l r : List ℕ). l ++ r) (atom_of-read bytes small (omega arith))
    (atoms_of-read k (drop 5 bytes) (bytes_drop 5 bytes small) (omega (arith, length-drop 5 bytes)))
    ∙ sym (take-add 5 (k * 5) bytes) ∙ ap (λ (j : ℕ). take j bytes) e

-- a count, a set and positions
count_of-rule : (len : ℕ) (content : List ℕ) → Every Byte content → 5 ≤ len → len ≤ length content → get_or content 0 0 ∷ four_bytes (set_at content 1) ++ take (len - 5) (drop 5 content) ≡ take len content
unfolding atom_of set_at
count_of-rule len content small long h =
    let whole : 5 + (len - 5) ≡ len = omega arith in
    ap (λ (l : List ℕ). l ++ take (len - 5) (drop 5 content)) (atom_of-read content small (omega arith)) ∙ sym (take-add 5 (len - 5) content) ∙ ap (λ (j : ℕ). take j content) whole

content_of-rule : (kind : Tag) (len : ℕ) (content : List ℕ) → Every Byte content → tag_fault kind ≡ 0 → T (length_fits kind len)
    → len ≤ length content → content_bytes (rule_of kind len content) ≡ take len content
unfolding rule_of content_bytes tag_fault atoms_of
content_of-rule Header len content small f t h = absurd (omega arith)
content_of-rule Starting len content small f t h =
    let five = starting-length len t in
    atoms_of-read 1 content small (omega arith) ∙ ap (λ (j : ℕ). take j content) (sym five)
content_of-rule AtMost len content small f t h = count_of-rule len content small (at_most-length len t) h
content_of-rule Unknown len content small f t h = absurd (omega arith)
content_of-rule Clause len content small f t h =
    let whole = clause-length len t in
    atoms_of-read (len / 5) content small (omega arith) ∙ ap (λ (j : ℕ). take j content) whole
content_of-rule Equality len content small f t h =
    let long = equality-length len t in
    let whole : 4 + (len - 4) ≡ len = omega arith in
    let parts : four_bytes (set_at content 0) ++ take (len - 4) (drop 4 content) ≡ take (4 + (len - 4)) content = rw (set_of-read content (omega arith) small, take-add) in
    parts ∙ ap (λ (j : ℕ). take j content) whole

-- its tag is the one that was read
tag_of-rule : (tag len : ℕ) (content : List ℕ) → tag_fault (tag_of tag) ≡ 0 → tag_byte (rule_of (tag_of tag) len content) ≡ tag
unfolding rule_of tag_byte tag_fault
tag_of-rule tag len content =
    tag_cases (λ byte kind. tag_fault kind ≡ 0 → tag_byte (rule_of kind len content) ≡ byte)
    (λ f. absurd (omega arith)) (λ f. refl) (λ f. refl) (λ f. refl) (λ f. refl) (λ byte f. absurd (omega arith)) tag

atoms-count : (k : ℕ) (bytes : List ℕ) → length (atoms_of k bytes) ≡ k
unfolding atoms_of
atoms-count zero bytes = refl
atoms-count (suc k) bytes = ap suc (atoms-count k (drop 5 bytes))

-- and so is its length, whatever the bytes are
length_of-rule : (kind : Tag) (len : ℕ) (content : List ℕ) → tag_fault kind ≡ 0 → T (length_fits kind len)
    → len ≤ length content → length (content_bytes (rule_of kind len content)) ≡ len
unfolding rule_of content_bytes tag_fault four_bytes
length_of-rule Header len content f t h = absurd (omega arith)
length_of-rule Unknown len content f t h = absurd (omega arith)
length_of-rule Clause len content f t h =
    omega (arith, clause-length len t, atoms-length (atoms_of (len / 5) content), atoms-count (len / 5) content)
length_of-rule Equality len content f t h =
    let long = equality-length len t in
    omega (arith, length-take-le (len - 4) (drop 4 content) (omega (arith, length-drop 4 content)))
length_of-rule AtMost len content f t h =
    let long = at_most-length len t in
    omega (arith, length-take-le (len - 5) (drop 5 content) (omega (arith, length-drop 5 content)))
length_of-rule Starting len content f t h = omega (arith, starting-length len t, atoms-length (atom_of content ∷ []))

-- ---- the bytes of a rule that was written, and what follows them

module _ (r : Rule) (rest : List ℕ) where
  head_of-written : head_of (written_rule r ++ rest) ≡ record { tag = tag_byte r; length = length (content_bytes r) }
  unfolding written_rule
  head_of-written = head_of-framed (tag_byte r) (content_bytes r) rest

  content_of-written : content_of (written_rule r ++ rest) ≡ content_bytes r ++ rest
  unfolding written_rule
  content_of-written = content_of-framed (tag_byte r) (content_bytes r) rest

  -- they hold the rule
  pub rule_of-written : rule_at (written_rule r ++ rest) ≡ r
  unfolding rule_at
  rule_of-written = rw (head_of-written, content_of-written) (rule_of_content r rest)

  -- the field ends where the rule's bytes do
  pub size_of-written : size_of (written_rule r ++ rest) ≡ length (written_rule r)
  unfolding size_of
  size_of-written = rw (head_of-written, written-length)

  -- a rule within the limits passes the tests of a field
  pub sound_of-written : (v n : ℕ) → RuleFits v n r → SoundField v n (written_rule r ++ rest)
  sound_of-written v n fits =
      let f = (rule_fits v n r).0 fits in
      record {
        head_there = rw length-append (omega (arith, written_long r));
        tag_fits = rw head_of-written (rule-tag r);
        length_fits = rw head_of-written f.0;
        content_there = rw (head_of-written, content_of-written, length-append) (omega arith);
        rule_faultless = rw rule_of-written f.2;
      }

-- a count that was read is a byte
count_of-read : (kind : Tag) (len : ℕ) (content : List ℕ) → Every Byte content → CountFits (rule_of kind len content)
unfolding rule_of
count_of-read Header len content small = tt
count_of-read Clause len content small = tt
count_of-read Equality len content small = tt
count_of-read Starting len content small = tt
count_of-read AtMost len content small = byte_at 0 content small
count_of-read Unknown len content small = tt

-- ---- bytes that start with a field without a fault

module _ (v n : ℕ) (bytes : List ℕ) (field : SoundField v n bytes) where
  length_of_content : length (content_bytes (rule_at bytes)) ≡ (head_of bytes).length
  unfolding rule_at
  length_of_content =
      length_of-rule (tag_of (head_of bytes).tag) (head_of bytes).length (content_of bytes) field.tag_fits field.length_fits field.content_there

  -- the tag byte of its rule is the one that stands there
  pub tag_of_content : tag_byte (rule_at bytes) ≡ (head_of bytes).tag
  unfolding rule_at
  tag_of_content = tag_of-rule (head_of bytes).tag (head_of bytes).length (content_of bytes) field.tag_fits

  -- the field ends where the rule's bytes do
  pub size_of-read : size_of bytes ≡ length (written_rule (rule_at bytes))
  unfolding size_of
  size_of-read = omega (arith, length_of_content, written-length (rule_at bytes))

  module _ (small : Every Byte bytes) where
    content_of-read : content_bytes (rule_at bytes) ≡ take (head_of bytes).length (content_of bytes)
    unfolding rule_at content_of
    content_of-read =
        content_of-rule (tag_of (head_of bytes).tag) (head_of bytes).length (content_of bytes) (bytes_drop 3 bytes small)
        field.tag_fits field.length_fits field.content_there

    -- they are its rule written, and what follows
    pub rule_of-read : bytes ≡ written_rule (rule_at bytes) ++ drop (size_of bytes) bytes
    unfolding written_rule
    rule_of-read = rw (tag_of_content, content_of-read) (framed_of-read bytes field.head_there small field.content_there)

    -- the rule is within the limits
    pub fits_of-read : RuleFits v n (rule_at bytes)
    unfolding content_of rule_at rule_of
    fits_of-read =
        (rule_fits v n (rule_at bytes)).1
        (rw (tag_of_content, length_of_content) field.length_fits, omega (arith, length_of_content, length_below bytes small), field.rule_faultless, count_of-read (tag_of (head_of bytes).tag) (head_of bytes).length (content_of bytes) (bytes_drop 3 bytes small))
