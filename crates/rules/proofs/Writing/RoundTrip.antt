-- Reading a file gives exactly the file that was written, and refuses exactly what is no sound file. Assumes nothing.
use mathlib.Core.Path.{◌≡◌, refl, sym, ap, ◌∙◌, subst}
use mathlib.Core.List.{List, [], ◌∷◌, ◌++◌}
use mathlib.Core.Logic.{◌↔◌}
use Prim.Native.Nat.{ℕ, zero, suc, ◌+◌, ◌≤◌, ◌<◌}
use native.Mathlib.Omega.{arith}
use lib.ListN.{length, get_or, drop, length-append, length-drop}
use lib.Seq.{drop-append_seam}
use Rattle.lists.specs.Lists.{Every}
use Rattle.rules.specs.Rules.{Rule, File}
use Rattle.rules.specs.Reading.{length_at, head_of, content_of, rule_at, seen_with, fault_after, header_fault, Reading, sound, refused, size_of, read_fields, reading}
use Rattle.rules.specs.Writing.{two_bytes, framed, written_rule, written_rules, written, RuleFits, Unseen, OneStart, Within}
use Rattle.rules.proofs.Reading.FieldByField.{refuse_for-sound, with_rule-sound, read_done, read_step, field_shortens}
use Rattle.rules.proofs.Reading.FaultlessLaws.{SoundField, SoundHeader, fault_after-none, header_fault-none}
use Rattle.rules.proofs.Writing.FrameLaws.{Byte, by_front, bytes_drop}
use Rattle.rules.proofs.Writing.WrittenLaws.{written_long, rule_of-written, size_of-written, sound_of-written, rule_of-read, fits_of-read}

-- ---- rules that were written are read back

-- a rule within the limits, for a position that was not seen, has no fault
fault_of-written : (r : Rule) (rest : List ℕ) (v n seen : ℕ) → RuleFits v n r → Unseen seen r → fault_after v n seen (written_rule r ++ rest) ≡ 0
fault_of-written r rest v n seen fits new =
    (fault_after-none v n seen (written_rule r ++ rest)).1 (sound_of-written r rest v n fits, subst (Unseen seen) (sym (rule_of-written r rest)) new)

rules_of-written : (rules : List Rule) (k v n seen place : ℕ) → length (written_rules rules) ≤ k → Every (RuleFits v n) rules → OneStart seen rules
    → read_fields k v n seen place (written_rules rules) ≡ sound (record { v = v; n = n; rules = rules })
unfolding written_rules
rules_of-written [] k v n seen place h fits one = read_done k v n seen place [] refl
rules_of-written (r ∷ rs) zero v n seen place h fits one = absurd (omega (arith, length-append (written_rule r) (written_rules rs), written_long r))
rules_of-written (r ∷ rs) (suc k) v n seen place h fits one =
    let rest = written_rules rs in
    let sum = length-append (written_rule r) rest in
    let long = written_long r in
    let later = rules_of-written rs k v n (seen_with r seen) (place + length (written_rule r)) (omega arith) fits.1 one.1 in
    read_step k v n seen place (written_rule r ++ rest) (omega arith)
    ∙ rw (fault_of-written r rest v n seen fits.0 one.0, rule_of-written r rest, size_of-written r rest, drop-append_seam, later)

-- ---- rules that were read are written back

-- the bytes are the rules of the file written, each within the limits, and no position seen has one more starting set
record RulesRead (v n seen : ℕ) (bytes : List ℕ) (file : File) : Type 0 where
  rules : List Rule
  whole : record { v = v; n = n; rules = rules } ≡ file
  bytes_written : bytes ≡ written_rules rules
  fits : Every (RuleFits v n) rules
  one : OneStart seen rules

no-rules-read : (v n seen : ℕ) (file : File) → sound (record { v = v; n = n; rules = [] }) ≡ sound file → RulesRead v n seen [] file
unfolding written_rules
no-rules-read v n seen file e = record { rules = []; whole = cc; bytes_written = refl; fits = tt; one = tt }

rules_of-read : (k v n seen place : ℕ) (bytes : List ℕ) (file : File) → length bytes ≤ k → Every Byte bytes → read_fields k v n seen place bytes ≡ sound file
    → RulesRead v n seen bytes file
unfolding read_fields written_rules
rules_of-read zero v n seen place [] file h small e = no-rules-read v n seen file e
rules_of-read zero v n seen place (b ∷ bs) file h small e = absurd (omega arith)
rules_of-read (suc k) v n seen place [] file h small e = no-rules-read v n seen file e
rules_of-read (suc k) v n seen place (b ∷ bs) file h small e =
    let bytes : List ℕ = b ∷ bs in
    let rest : List ℕ = drop (size_of bytes) bytes in
    let seen' : ℕ = seen_with (rule_at bytes) seen in
    let step = refuse_for-sound (fault_after v n seen bytes) place _ file e in
    let passed = (fault_after-none v n seen bytes).0 step.0 in
    let field : SoundField v n bytes = passed.0 in
    let found = with_rule-sound (rule_at bytes) (read_fields k v n seen' (place + size_of bytes) rest) file step.1 in
    let more = rules_of-read k v n seen' (place + size_of bytes) rest found.0 (field_shortens k bytes h) (bytes_drop (size_of bytes) bytes small) found.1 in
    record {
      rules = rule_at bytes ∷ more.rules;
      whole = cc;
      bytes_written = rule_of-read v n bytes field small ∙ ap (λ (l : List ℕ). written_rule (rule_at bytes) ++ l) more.bytes_written;
      fits = (fits_of-read v n bytes field small, more.fits);
      one = (passed.1, more.one);
    }

-- ---- the header

header_of-written : (v n : ℕ) (rest : List ℕ) → (1 ≤ v) × (v ≤ 64) → (1 ≤ n) × (n ≤ 32) → header_fault (framed 1 (v ∷ n ∷ []) ++ rest) ≡ 0
unfolding framed two_bytes head_of length_at content_of
header_of-written v n rest hv hn =
    (header_fault-none (framed 1 (v ∷ n ∷ []) ++ rest)).1
    (record { head_there = omega arith; header = refl; two_long = refl; content_there = omega arith; positions = hv; values = hn })

header_of-read : (s : List ℕ) → 5 ≤ length s → SoundHeader s → s ≡ framed 1 (get_or s 3 0 ∷ get_or s 4 0 ∷ []) ++ drop 5 s
unfolding framed two_bytes head_of length_at
header_of-read = by_front 5 _ λ tag high low v n rest header.
    let t : tag ≡ 1 = header.header in
    let l : (high ≡ 0) × (low ≡ 2) = omega arith in
    cc

-- ---- the whole file

-- behind the header that was written
behind : (v n : ℕ) (rules : List Rule) → Every (RuleFits v n) rules → OneStart 0 rules
    → read_fields (length (framed 1 (v ∷ n ∷ []) ++ written_rules rules)) v n 0 5 (written_rules rules) ≡ sound (record { v = v; n = n; rules = rules })
unfolding framed two_bytes
behind v n rules fits one = rules_of-written rules _ v n 0 5 (omega arith) fits one

-- a file within the limits that was written is read back
pub read_of-written : (file : File) → Within file → reading (written file) ≡ sound file
unfolding reading written framed two_bytes
read_of-written file within =
    rw (header_of-written file.v file.n (written_rules file.rules) within.positions within.values)
    (behind file.v file.n file.rules within.rules within.starts)

-- a file that was read is written back, and is within the limits
pub written_of-read : (s : List ℕ) → Every (λ b. b < 256) s → (file : File) → reading s ≡ sound file → (s ≡ written file) × Within file
unfolding reading written content_of
written_of-read s small file e =
    let step = refuse_for-sound (header_fault s) 0 _ file e in
    let header : SoundHeader s = (header_fault-none s).0 step.0 in
    let found = rules_of-read (length s) (get_or s 3 0) (get_or s 4 0) 0 5 (drop 5 s) file (omega (arith, length-drop 5 s)) (bytes_drop 5 s small) step.1 in (
      header_of-read s (omega (arith, length-drop 3 s)) header
          ∙ ap (λ (l : List ℕ). framed 1 (get_or s 3 0 ∷ get_or s 4 0 ∷ []) ++ l) found.bytes_written ∙ ap written found.whole,
      subst Within found.whole (record { positions = header.positions; values = header.values; rules = found.fits; starts = found.one }),
    )

-- reading gives a file exactly if the bytes are that file written and the file is within the limits
pub reading-written : (s : List ℕ) → Every (λ b. b < 256) s → (file : File) → (reading s ≡ sound file) ↔ ((s ≡ written file) × Within file)
reading-written s small file = (written_of-read s small file, λ h. ap reading h.0 ∙ read_of-written file h.1)

-- a file is refused exactly if it is no sound file
pub refused-exactly : (s : List ℕ) → Every (λ b. b < 256) s
    → ((number : ℕ) × (place : ℕ) × (reading s ≡ refused number place)) ↔ ((file : File) → s ≡ written file → Within file → ⊥)
refused-exactly s small = (
  λ h file e within. let z : ◌≡◌ {A = ℕ} 0 1 = cc ((reading-written s small file).1 (e, within), h.2) in omega arith,
  λ none. cases none (reading s) refl,
)
  where
    cases : ((file : File) → s ≡ written file → Within file → ⊥) → (found : Reading) → reading s ≡ found
        → (number : ℕ) × (place : ℕ) × (reading s ≡ refused number place)
    cases none (sound file) e = let w = written_of-read s small file e in absurd (none file w.0 w.1)
    cases none (refused number place) e = (number, place, e)

-- a header alone is a file without rules
pub header_alone : (v n : ℕ) → 1 ≤ v → v ≤ 64 → 1 ≤ n → n ≤ 32 → reading (1 ∷ 0 ∷ 2 ∷ v ∷ n ∷ []) ≡ sound (record { v = v; n = n; rules = [] })
unfolding written written_rules framed two_bytes
header_alone v n v_low v_high n-low n-high =
    read_of-written (record { v = v; n = n; rules = [] }) (record { positions = (v_low, v_high); values = (n-low, n-high); rules = tt; starts = tt })
