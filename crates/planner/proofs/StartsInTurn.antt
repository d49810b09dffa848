-- Laws of the walk that makes the starting rooms: field by field, each starting set put into its place. Assumes nothing.
use mathlib.Core.Path.{◌≡◌, refl, sym, ap, ap₂, ◌∙◌, subst}
use mathlib.Core.List.{List, [], ◌∷◌, map}
use Prim.Native.Nat.{ℕ, zero, suc, ◌-◌, ◌≤◌}
use lib.ListN.{length, take, drop, set, replicate}
use Rattle.std.proofs.lemmas.List.{take-replicate, drop-replicate}
use Rattle.lists.specs.Lists.{Every}
use Rattle.sets.specs.Sets.{full}
use Rattle.rules.specs.declared.field.Atom.{Atom}
use Rattle.rules.specs.declared.field.Tag.{Tag}
use Rattle.rules.specs.declared.field.Tag.TheVariants.{Header, Clause, Equality, Starting, AtMost, Unknown}
use Rattle.rules.specs.Contents.{AtomsFit, ContentFits}
use Rattle.rules.specs.Each.{Framed, frames_in, as_field, FrameFits}
use Rattle.rules.specs.Rules.{Rule, File, clause, equality, starting, at_most}
use Rattle.rules.specs.Reading.{atom_of, rule_of, reading}
use Rattle.rules.specs.Sound.{file_of, fields_in, SoundInput}
use Rattle.rules.specs.UpTo.{rules_of}
use Rattle.rules.specs.Writing.{fields_of, PositionFits}
use Rattle.rules.proofs.Reading.ContentLaws.{one_atom}
use Rattle.rules.proofs.Reading.FrameLaws.{frames_sound}
use Rattle.rules.proofs.Writing.UpToLaws.{placed-rules}
use Rattle.rooms.specs.Held.{Held, with_box}
use Rattle.steps.specs.Boxes.{with_room, start_box}
use Rattle.steps.specs.Start.{start_by, starts_by}
use Rattle.steps.proofs.Start.StartLaws.{starts-length}

-- the rules of a file's fields are its rules
field-rules : (file : File) → rules_of (fields_of file) ≡ file.rules
unfolding fields_of
field-rules file = placed-rules 5 file.rules

-- the walk has come to these fields: they fit, and with their starting sets the rooms become those of all
pub record StartsLeft (s : List ℕ) (base : Held) (frames : List Framed) (rooms : Held) : Type 0 where
  pub fit : Every (FrameFits (length rooms.box)) frames
  pub behind : rooms.rest ≡ base.rest
  pub whole : starts_by (file_of (reading s)).rules base.box ≡ starts_by (rules_of (map as_field frames)) rooms.box

-- at the start no set is in its place
pub starts_begin : (s : List ℕ) (base : Held) {frames : List Framed} → SoundInput s (length base.box) → frames ≡ frames_in s → StartsLeft s base frames base
unfolding fields_in
starts_begin s base {frames} sound all =
    let framing = frames_sound sound in
    subst (λ (fs : List Framed). StartsLeft s base fs base) (sym all)
    (record {
      fit = framing.fit;
      behind = refl;
      whole = ap (λ (rules : List Rule). starts_by rules base.box) (sym (field-rules (file_of (reading s))) ∙ ap rules_of (sym framing.fields));
    })

module _ {s : List ℕ} {base : Held} {frames : List Framed} {rooms : Held} (going : StartsLeft s base frames rooms) where
  -- at the end all are
  pub starts_end : frames ≡ [] → rooms ≡ with_box (starts_by (file_of (reading s)).rules base.box) base
  unfolding starts_by
  starts_end none =
      ap₂ (λ (box rest : List ℕ). record { box = box; rest = rest })
      (sym (going.whole ∙ ap (λ (fs : List Framed). starts_by (rules_of (map as_field fs)) rooms.box) none)) going.behind

  module _ {f : Framed} {more : List Framed} (next : frames ≡ f ∷ more) where
    all_fit : FrameFits (length rooms.box) f × Every (FrameFits (length rooms.box)) more
    all_fit = subst (Every (FrameFits (length rooms.box))) next going.fit

    -- the content of the next field fits
    pub starts-fit : ContentFits f.kind (length rooms.box) (length f.content) f.content
    starts-fit = all_fit.0

    -- and behind it its set is in its place
    pub starts_on : {after : Held} → after ≡ with_box (start_by (rule_of f.kind (length f.content) f.content) rooms.box) rooms → StartsLeft s base more after
    unfolding starts_by
    starts_on {after} e =
        let rule = rule_of f.kind (length f.content) f.content in
        subst (StartsLeft s base more) (sym e)
        (record {
          fit = subst (λ (v : ℕ). Every (FrameFits v) more) (sym (starts-length (rule ∷ []) rooms.box)) all_fit.1;
          behind = going.behind;
          whole = going.whole ∙ ap (λ (fs : List Framed). starts_by (rules_of (map as_field fs)) rooms.box) next;
        })

-- ---- one field

module _ (v : ℕ) (content : List ℕ) {kind : Tag} (fits : ContentFits kind v (length content) content) (is : kind ≡ Starting) where
  starting_fits : ContentFits Starting v (length content) content
  starting_fits = subst (λ (k : Tag). ContentFits k v (length content) content) is fits

  -- a starting set has five bytes
  pub start_five : length content ≡ 5
  start_five = starting_fits.0

  -- its position is 1 to v
  pub start-position : {atom : Atom} → atom ≡ atom_of content → PositionFits v atom.position
  start-position read =
      subst (λ (a : Atom). PositionFits v a.position) (sym read) (subst (AtomsFit v) (one_atom (length content) content starting_fits.0) starting_fits.1.fit).0

-- and its set is the room of that position
pub start-put : (content box : List ℕ) {kind : Tag} {atom : Atom} → kind ≡ Starting → atom ≡ atom_of content
    → with_room box atom.position atom.set ≡ start_by (rule_of kind (length content) content) box
unfolding start_by rule_of
start-put content box {kind} is read =
    ap (λ (a : Atom). with_room box a.position a.set) read ∙ sym (ap (λ (k : Tag). start_by (rule_of k (length content) content) box) is)

-- a field of any other kind leaves the box
pub start_other : (kind : Tag) (content box : List ℕ) → (kind ≡ Starting → ⊥) → box ≡ start_by (rule_of kind (length content) content) box
unfolding start_by rule_of
start_other Header content box other = refl
start_other Clause content box other = refl
start_other Equality content box other = refl
start_other Starting content box other = absurd (other refl)
start_other AtMost content box other = refl
start_other Unknown content box other = refl

-- ---- the first v rooms

-- a room in its place among the first v, or behind them
front-set : (v : ℕ) (rooms : List ℕ) (i m : ℕ) → take v (set rooms i m) ≡ set (take v rooms) i m
front-set zero rooms i m = refl
front-set (suc v) [] i m = refl
front-set (suc v) (room ∷ rooms) zero m = refl
front-set (suc v) (room ∷ rooms) (suc i) m = ap (λ (rest : List ℕ). room ∷ rest) (front-set v rooms i m)

-- the starting sets of the first v rooms are those of all
pub front-starts : (v : ℕ) (rules : List Rule) (rooms : List ℕ) → take v (starts_by rules rooms) ≡ starts_by rules (take v rooms)
unfolding starts_by start_by with_room
front-starts v [] rooms = refl
front-starts v (clause atoms ∷ rules) rooms = front-starts v rules rooms
front-starts v (equality m ps ∷ rules) rooms = front-starts v rules rooms
front-starts v (at_most k m ps ∷ rules) rooms = front-starts v rules rooms
front-starts v (starting a ∷ rules) rooms =
    front-starts v rules (set rooms (a.position - 1) a.set) ∙ ap (starts_by rules) (front-set v rooms (a.position - 1) a.set)

-- ---- the rooms before any starting set

-- of 64 rooms {1..n}, v are those of positions
abbrev pub plain : ℕ → ℕ → Held
plain v n = record { box = start_box v n; rest = start_box (64 - v) n }

-- an array of 64 such rooms is these
pub plain_made : (v n m : ℕ) {rooms : Held} → v ≤ 64 → rooms ≡ record { box = take v (replicate 64 m); rest = drop v (replicate 64 m) } → m ≡ full n → rooms ≡ plain v n
unfolding start_box
plain_made v n m few made e =
    made
    ∙ (λ i. record { box = take-replicate v 64 m few i; rest = drop-replicate v 64 m i })
    ∙ ap (λ (room : ℕ). record { box = replicate v room; rest = replicate (64 - v) room }) e
