-- The rules of a file up to a field, with its starting sets: its fields begin with those up to there, `fields_up_to_lem`, its bytes with the front of the file's, `front-written`, and it is within the limits
-- where the file is, `front-within`. Assumes nothing.
use mathlib.Core.Path.{◌≡◌, refl, sym, ap, ◌∙◌, subst, subst₂}
use mathlib.Core.List.{List, [], ◌∷◌, ◌++◌}
use Prim.Native.Nat.{ℕ, ◌+◌, ◌≤◌, ◌<◌}
use native.Mathlib.Decide.{dec_lt}
use native.Mathlib.Omega.{arith}
use borrow.Author.Tests.{lt-ltb, le-ltb}
use lib.ListN.{length, length-append}
use Rattle.lists.specs.Lists.{Every}
use Rattle.lists.proofs.ListLaws.{every_map, every-over-append}
use Rattle.rules.specs.Rules.{Rule, Field, File, clause, equality, starting, at_most}
use Rattle.rules.specs.Writing.{written_rule, written_rules, written, placed, fields_of, RuleFits, OneStart, Within}
use Rattle.rules.specs.Reading.{seen_with}
use Rattle.rules.specs.Added.{added}
use Rattle.rules.specs.UpTo.{fields_up_to, fields_behind, rules_of, only_starts, up_to}
use Rattle.rules.proofs.Writing.AddedLaws.{added-written}

-- each field stands at the place where the fields begin, or behind it
pub placed-from : (at : ℕ) (rules : List Rule) → Every (λ f. at ≤ f.place) (placed at rules)
unfolding placed
placed-from at [] = tt
placed-from at (r ∷ rs) =
    let next : ℕ = at + length (written_rule r) in
    (omega arith, every_map (λ f. next ≤ f.place) (λ f. at ≤ f.place) (placed next rs) (λ f h. omega arith) (placed-from next rs))

-- a field that stands behind the place ends it
up_to_end : (place : ℕ) (f : Field) (fields : List Field) → place < f.place → fields_up_to place (f ∷ fields) ≡ []
unfolding fields_up_to
up_to_end place f fields h = simp (lt-ltb place f.place h)

-- any other is the first
pub up_to_next : (place : ℕ) (f : Field) (fields : List Field) → f.place ≤ place → fields_up_to place (f ∷ fields) ≡ f ∷ fields_up_to place fields
unfolding fields_up_to
up_to_next place f fields h = simp (le-ltb place f.place h)

-- so those behind are it and all that follow
behind_end : (place : ℕ) (f : Field) (fields : List Field) → place < f.place → fields_behind place (f ∷ fields) ≡ f ∷ fields
unfolding fields_behind
behind_end place f fields h = simp (lt-ltb place f.place h)

-- and where it does not, it is none of them
behind_next : (place : ℕ) (f : Field) (fields : List Field) → f.place ≤ place → fields_behind place (f ∷ fields) ≡ fields_behind place fields
unfolding fields_behind
behind_next place f fields h = simp (le-ltb place f.place h)

-- the rules of placed fields are the rules
pub placed-rules : (at : ℕ) (rules : List Rule) → rules_of (placed at rules) ≡ rules
unfolding placed
placed-rules at [] = refl
placed-rules at (r ∷ rs) = ap (λ (l : List Rule). r ∷ l) (placed-rules (at + length (written_rule r)) rs)

-- The fields of some rules, from a place on, in two parts: the rules of the front stand there where they stood, and all rules are those of the front and those behind it.
record FrontFields (at : ℕ) (rules : List Rule) (cut behind : List Field) : Type 0 where
  fields : placed at (rules_of cut) ≡ cut
  whole : rules ≡ rules_of cut ++ rules_of behind

front_of : (place at : ℕ) (rules : List Rule) → FrontFields at rules (fields_up_to place (placed at rules)) (fields_behind place (placed at rules))
unfolding fields_up_to fields_behind placed
front_of place at [] = record { fields = refl; whole = refl }
front_of place at (r ∷ rs) = go (front_of place next rs) (dec_lt place at)
  where
    next : ℕ
    next = at + length (written_rule r)

    here : Field
    here = record { place = at; rule = r }

    go : FrontFields next rs (fields_up_to place (placed next rs)) (fields_behind place (placed next rs)) → Dec (place < at)
        → FrontFields at (r ∷ rs) (fields_up_to place (here ∷ placed next rs)) (fields_behind place (here ∷ placed next rs))
    go rest (yes behind) =
        subst₂ (FrontFields at (r ∷ rs)) (sym (up_to_end place here (placed next rs) behind)) (sym (behind_end place here (placed next rs) behind))
        (record { fields = refl; whole = ap (λ (l : List Rule). r ∷ l) (sym (placed-rules next rs)) })
    go rest (no before) =
        subst₂ (FrontFields at (r ∷ rs)) (sym (up_to_next place here (placed next rs) (omega arith))) (sym (behind_next place here (placed next rs) (omega arith)))
        (record { fields = ap (λ (fields : List Field). here ∷ fields) rest.fields; whole = ap (λ (rules : List Rule). r ∷ rules) rest.whole })

-- rules one behind the other are placed one behind the other
placed-append : (at : ℕ) (front later : List Rule) → (next : ℕ) × (placed at (front ++ later) ≡ placed at front ++ placed next later)
unfolding placed
placed-append at [] later = (at, refl)
placed-append at (r ∷ rs) later =
    let rest = placed-append (at + length (written_rule r)) rs later in
    (rest.0, ap (λ (fields : List Field). record { place = at; rule = r } ∷ fields) rest.1)

-- ---- the starting sets among some rules

-- what holds of every rule holds of those
starts_every : (P : Rule → Type 0) (rules : List Rule) → Every P rules → Every P (only_starts rules)
unfolding only_starts
starts_every P [] each = tt
starts_every P (clause atoms ∷ rules) each = starts_every P rules each.1
starts_every P (equality m ps ∷ rules) each = starts_every P rules each.1
starts_every P (starting a ∷ rules) each = (each.0, starts_every P rules each.1)
starts_every P (at_most k m ps ∷ rules) each = starts_every P rules each.1

-- where no position has two starting sets, none has behind some rules
starts_once : (seen : ℕ) (front later : List Rule) → OneStart seen (front ++ later) → OneStart seen (front ++ only_starts later)
unfolding only_starts seen_with
starts_once seen (r ∷ rs) later one = (one.0, starts_once (seen_with r seen) rs later one.1)
starts_once seen [] [] one = tt
starts_once seen [] (clause atoms ∷ rules) one = starts_once seen [] rules one.1
starts_once seen [] (equality m ps ∷ rules) one = starts_once seen [] rules one.1
starts_once seen [] (starting a ∷ rules) one = (one.0, starts_once (seen_with (starting a) seen) [] rules one.1)
starts_once seen [] (at_most k m ps ∷ rules) one = starts_once seen [] rules one.1

-- they take no more bytes
starts-short : (rules : List Rule) → length (written_rules (only_starts rules)) ≤ length (written_rules rules)
unfolding only_starts written_rules
starts-short [] = omega arith
starts-short (clause atoms ∷ rules) = omega (arith, starts-short rules, length-append (written_rule (clause atoms)) (written_rules rules))
starts-short (equality m ps ∷ rules) = omega (arith, starts-short rules, length-append (written_rule (equality m ps)) (written_rules rules))
starts-short (starting a ∷ rules) =
    omega (arith, starts-short rules, length-append (written_rule (starting a)) (written_rules rules), length-append (written_rule (starting a)) (written_rules (only_starts rules)))
starts-short (at_most k m ps ∷ rules) = omega (arith, starts-short rules, length-append (written_rule (at_most k m ps)) (written_rules rules))

-- ---- a file

module _ (place : ℕ) (file : File) where
  abbrev cut : List Field
  cut = fields_up_to place (fields_of file)

  -- the rules behind it
  abbrev pub later : List Rule
  later = rules_of (fields_behind place (fields_of file))

  parts : FrontFields 5 file.rules cut (fields_behind place (fields_of file))
  unfolding fields_of
  parts = front_of place 5 file.rules

  -- the rules of a file are those up to a place, and those behind it
  pub rules-up_to : file.rules ≡ rules_of cut ++ later
  rules-up_to = parts.whole

  -- the fields up to a place are those that the file of them begins with, and starting sets follow
  pub fields_up_to_lem : (starts : List Field) × (fields_of (up_to place file) ≡ fields_up_to place (fields_of file) ++ starts)
  unfolding fields_of up_to
  fields_up_to_lem =
      let split = placed-append 5 (rules_of cut) (only_starts later) in
      (placed split.0 (only_starts later), split.1 ∙ ap (λ (fields : List Field). fields ++ placed split.0 (only_starts later)) parts.fields)

  -- a file within the limits is so up to a place
  pub front-within : Within file → Within (up_to place file)
  unfolding up_to
  front-within within =
      let rules = (every-over-append (RuleFits file.v file.n) (rules_of cut) later).0 (subst (Every (RuleFits file.v file.n)) parts.whole within.rules) in
      record {
        positions = within.positions;
        values = within.values;
        rules = (every-over-append (RuleFits file.v file.n) (rules_of cut) (only_starts later)).1 (rules.0, starts_every (RuleFits file.v file.n) later rules.1);
        starts = starts_once 0 (rules_of cut) later (subst (OneStart 0) parts.whole within.starts);
      }

  -- the bytes of a file are a front and the rules behind it; the file that is cut there has the same front and the starting sets behind it, so it is no longer
  pub record FrontWritten (front : List ℕ) : Type 0 where
    pub all : written file ≡ front ++ written_rules later
    pub kept : written (up_to place file) ≡ front ++ written_rules (only_starts later)
    pub short : length (written (up_to place file)) ≤ length (written file)

  pub front-written : (front : List ℕ) × FrontWritten front
  unfolding up_to added
  front-written = (written front, record { all = all; kept = kept; short = omega (arith, starts-short later, ap length all, ap length kept, length-append (written front) (written_rules later), length-append (written front) (written_rules (only_starts later))) })
    where
      front : File
      front = record { v = file.v; n = file.n; rules = rules_of cut }

      all : written file ≡ written front ++ written_rules later
      all = ap (λ (rules : List Rule). written (record { v = file.v; n = file.n; rules = rules })) parts.whole ∙ added-written front later

      kept : written (up_to place file) ≡ written front ++ written_rules (only_starts later)
      kept = added-written front (only_starts later)
