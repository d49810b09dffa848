-- Laws of the box that the search of a file starts with (R-6): its rooms are the starting sets, `start_own`, and {1..n} where a position has none, `start_else`; none is empty,
-- `start_filled`; and an assignment lies in it exactly if it is one of values 1 to n that meets all starting sets, `start_assigned`. Assumes nothing.
use mathlib.Core.Path.{◌≡◌, refl, sym, ap, ◌∙◌, subst}
use mathlib.Core.Logic.{◌↔◌, inl, inr}
use mathlib.Core.List.{List, [], ◌∷◌, ◌++◌}
use Prim.Native.Nat.{ℕ, zero, suc, ◌-◌, ◌^◌, ◌≤◌, ◌<◌}
use native.Mathlib.Omega.{arith}
use lib.Dec.{T}
use lib.ListN.{length, get_or, set, length-set}
use lib.Seq.{get_or-set_same, get_or-set_other}
use Rattle.sets.specs.Sets.{IsMember, full, inside}
use Rattle.sets.proofs.Members.{member_positive, member_power, member_union}
use Rattle.sets.proofs.Sameness.{inside_refl}
use Rattle.lists.specs.Lists.{Every}
use Rattle.lists.proofs.ListLaws.{every_map}
use Rattle.rules.specs.Rules.{Rule, File, clause, equality, starting, at_most}
use Rattle.rules.specs.Reading.{rule_fault, with_position, seen_with}
use Rattle.rules.specs.Meaning.{Assignment, Meets, MeetsAll}
use Rattle.rules.specs.UpTo.{fields_up_to, rules_of, only_starts, up_to}
use Rattle.rules.specs.Writing.{fields_of, RuleFits, Unseen, OneStart, Within}
use Rattle.rules.proofs.Reading.FaultlessLaws.{starting_fault-none}
use Rattle.rules.proofs.Reading.RefusalLaws.{Faultless}
use Rattle.rules.proofs.Writing.UpToLaws.{later, rules-up_to}
use Rattle.rules.proofs.Writing.WrittenLaws.{fits_faultless}
use Rattle.steps.specs.Boxes.{room_at, with_room, start_box, InBox, BoxInside, Rooms}
use Rattle.steps.specs.Start.{start_by, starts_by, start_of}
use Rattle.steps.proofs.Boxes.BoxLaws.{in-box-set, in-box-inside, box-inside_refl, box-inside_trans, set_both-inside, set-inside, rooms-set}
use Rattle.steps.proofs.Boxes.BoxSizes.{start_assignments, start-rooms, start-length}
use Rattle.steps.proofs.Looks.FittingRules.{set_below}

-- what holds of a box, and still does once any of the rules has been read, holds of the box once all have been
reads_on : (P : List ℕ → Type 0) (rules : List Rule) (box : List ℕ) → Every (λ r. (b : List ℕ) → P b → P (start_by r b)) rules → P box → P (starts_by rules box)
unfolding starts_by
reads_on P [] box each h = h
reads_on P (r ∷ rules) box each h = reads_on P rules (start_by r box) each.1 (each.0 box h)

-- ---- one rule

-- the number of rooms stays
by_length : (v : ℕ) (rule : Rule) (box : List ℕ) → length box ≡ v → length (start_by rule box) ≡ v
unfolding start_by with_room
by_length v (clause atoms) box e = e
by_length v (equality m ps) box e = e
by_length v (starting a) box e = length-set box (a.position - 1) a.set ∙ e
by_length v (at_most k m ps) box e = e

-- no room becomes empty
by-rooms : (v n : ℕ) (rule : Rule) → rule_fault v n rule ≡ 0 → (box : List ℕ) → Rooms box → Rooms (start_by rule box)
unfolding start_by with_room
by-rooms v n (clause atoms) none box rooms = rooms
by-rooms v n (equality m ps) none box rooms = rooms
by-rooms v n (starting a) none box rooms =
    let fits = (starting_fault-none v n a).0 none in
    rooms-set box (a.position - 1) a.set rooms (set_below n a.set fits.0.1) fits.1
by-rooms v n (at_most k m ps) none box rooms = rooms

-- each of v rooms {1..n} is {1..n}
full_at : (v n i : ℕ) → i < v → get_or (start_box v n) i 0 ≡ full n
unfolding start_box
full_at zero n i l = absurd (omega arith)
full_at (suc v) n zero l = refl
full_at (suc v) n (suc i) l = full_at v n i (omega arith)

-- rooms inside {1..n} stay so
by-inside : (v n : ℕ) (rule : Rule) → rule_fault v n rule ≡ 0 → (box : List ℕ) → BoxInside box (start_box v n) → BoxInside (start_by rule box) (start_box v n)
unfolding start_by with_room
by-inside v n (clause atoms) none box within = within
by-inside v n (equality m ps) none box within = within
by-inside v n (starting a) none box within =
    let fits = ((starting_fault-none v n a).0 none).0 in
    let i = a.position - 1 in
    let whole = start_box v n in
    box-inside_trans (set box i a.set) (set whole i a.set) whole (set_both-inside box whole i a.set a.set within (inside_refl a.set))
    (set-inside whole i a.set (subst (λ (m : ℕ). T (inside a.set m)) (sym (full_at v n i (omega (arith, fits.0)))) fits.1))
by-inside v n (at_most k m ps) none box within = within

-- an assignment that meets the rule stays in the box
by_assigned : (a : List ℕ) (rule : Rule) → Meets a rule → (box : List ℕ) → InBox a box → InBox a (start_by rule box)
unfolding start_by with_room
by_assigned a (clause atoms) met box h = h
by_assigned a (equality m ps) met box h = h
by_assigned a (starting atom) met box h = in-box-set a box (atom.position - 1) atom.set h met
by_assigned a (at_most k m ps) met box h = h

-- ---- all rules of a file

-- starting sets leave the number of rooms
pub starts-length : (rules : List Rule) (box : List ℕ) → length (starts_by rules box) ≡ length box
unfolding starts_by
starts-length [] box = refl
starts-length (r ∷ rs) box = starts-length rs (start_by r box) ∙ by_length (length box) r box refl

-- a file has v rooms at the start
pub start-positions : (file : File) → length (start_of file) ≡ file.v
unfolding start_of
start-positions file = starts-length file.rules (start_box file.v file.n) ∙ start-length file.v file.n

module _ (file : File) (some : 1 ≤ file.n) (few : file.n ≤ 32) (none : Faultless file.v file.n file.rules) where
  -- what each rule without a fault keeps holds of the start
  kept : (P : List ℕ → Type 0) → ((rule : Rule) → rule_fault file.v file.n rule ≡ 0 → (box : List ℕ) → P box → P (start_by rule box)) → P (start_box file.v file.n) → P (start_of file)
  unfolding start_of
  kept P keeps =
      reads_on P file.rules (start_box file.v file.n)
      (every_map (λ r. rule_fault file.v file.n r ≡ 0) (λ r. (b : List ℕ) → P b → P (start_by r b)) file.rules keeps none)

  -- none of the rooms is empty
  pub faultless_filled : Rooms (start_of file)
  faultless_filled = kept Rooms (by-rooms file.v file.n) (start-rooms file.v file.n some few)

  -- each lies inside {1..n}
  pub faultless-inside : BoxInside (start_of file) (start_box file.v file.n)
  faultless-inside = kept (λ b. BoxInside b (start_box file.v file.n)) (by-inside file.v file.n) (box-inside_refl (start_box file.v file.n))

-- an assignment that meets all rules lies in the start
meeting-inside : (file : File) (a : List ℕ) → InBox a (start_box file.v file.n) → MeetsAll a file.rules → InBox a (start_of file)
unfolding start_of
meeting-inside file a h met =
    reads_on (InBox a) file.rules (start_box file.v file.n) (every_map (Meets a) (λ r. (b : List ℕ) → InBox a b → InBox a (start_by r b)) file.rules (by_assigned a) met) h

module _ (file : File) (within : Within file) where
  rules_faultless : Faultless file.v file.n file.rules
  rules_faultless = every_map (RuleFits file.v file.n) (λ rule. rule_fault file.v file.n rule ≡ 0) file.rules (fits_faultless file.v file.n) within.rules

  -- none of the rooms is empty
  pub start_filled : Rooms (start_of file)
  start_filled = faultless_filled file within.values.0 within.values.1 rules_faultless

  -- each lies inside {1..n}
  pub start-within : BoxInside (start_of file) (start_box file.v file.n)
  start-within = faultless-inside file within.values.0 within.values.1 rules_faultless

  -- an assignment that meets the rules is one of values 1 to n exactly if it lies inside the starting sets
  pub start_assigned : (a : List ℕ) → MeetsAll a file.rules → Assignment file.v file.n a ↔ InBox a (start_of file)
  start_assigned a met =
      let same = start_assignments file.v file.n a within.values.1 in
      (λ h. meeting-inside file a (same.0 h) met, λ h. same.1 (in-box-inside a (start_of file) (start_box file.v file.n) h start-within))

-- ---- which room a position starts with

-- the set with one position more has that position
added : (p seen : ℕ) → 1 ≤ p → IsMember p (with_position p seen)
unfolding with_position
added p seen low = let up : p ≡ suc (p - 1) = omega arith in (member_union p seen (2 ^ (p - 1))).1 (inr ((member_power (p - 1) p).1 up))

-- a position that was seen still is
still_seen : (rule : Rule) (p seen : ℕ) → IsMember p seen → IsMember p (seen_with rule seen)
unfolding seen_with with_position
still_seen (clause atoms) p seen t = t
still_seen (equality m ps) p seen t = t
still_seen (starting a) p seen t = (member_union p seen (2 ^ (a.position - 1))).1 (inl t)
still_seen (at_most k m ps) p seen t = t

-- the rule is no starting set of the position
abbrev pub NoStartOf : ℕ → Rule → Type 0
NoStartOf p (clause atoms) = Unit {0}
NoStartOf p (equality m ps) = Unit {0}
NoStartOf p (starting a) = a.position ≡ p → ⊥
NoStartOf p (at_most k m ps) = Unit {0}

-- such a rule leaves the position its room
by-others : (v n : ℕ) (rule : Rule) (p : ℕ) → RuleFits v n rule → 1 ≤ p → NoStartOf p rule → (box : List ℕ) → room_at (start_by rule box) p ≡ room_at box p
unfolding start_by with_room room_at
by-others v n (clause atoms) p fits low other box = refl
by-others v n (equality m ps) p fits low other box = refl
by-others v n (starting a) p fits low other box = get_or-set_other box (a.position - 1) (p - 1) a.set 0 (λ e. other (omega (arith, fits.0.0)))
by-others v n (at_most k m ps) p fits low other box = refl

-- a rule that is no starting set of a position seen is none of each of them
none_of-seen : (rule : Rule) (p seen : ℕ) → Unseen seen rule → IsMember p seen → NoStartOf p rule
none_of-seen (clause atoms) p seen new t = tt
none_of-seen (equality m ps) p seen new t = tt
none_of-seen (starting a) p seen new t = λ e. new (subst (λ (q : ℕ). IsMember q seen) (sym e) t)
none_of-seen (at_most k m ps) p seen new t = tt

-- the room of a position is the starting set that a rule gives it
abbrev pub StartsWith : List ℕ → Rule → Type 0
StartsWith box (clause atoms) = Unit {0}
StartsWith box (equality m ps) = Unit {0}
StartsWith box (starting a) = room_at box a.position ≡ a.set
StartsWith box (at_most k m ps) = Unit {0}

module _ (v n : ℕ) where
  -- positions seen keep their rooms
  stays : (rules : List Rule) (seen : ℕ) (box : List ℕ) (p : ℕ) → Every (RuleFits v n) rules → OneStart seen rules → IsMember p seen → room_at (starts_by rules box) p ≡ room_at box p
  unfolding starts_by
  stays [] seen box p fits one t = refl
  stays (r ∷ rs) seen box p fits one t =
      stays rs (seen_with r seen) (start_by r box) p fits.1 one.1 (still_seen r p seen t)
      ∙ by-others v n r p fits.0 (member_positive p seen t) (none_of-seen r p seen one.0 t) box

  -- a starting set is the room of its position, whatever rules come behind it
  own_first : (r : Rule) (rs : List Rule) (seen : ℕ) (box : List ℕ) → length box ≡ v → RuleFits v n r → Every (RuleFits v n) rs → OneStart (seen_with r seen) rs
      → StartsWith (starts_by rs (start_by r box)) r
  unfolding start_by seen_with with_room room_at
  own_first (clause atoms) rs seen box long fit fits one = tt
  own_first (equality m ps) rs seen box long fit fits one = tt
  own_first (at_most k m ps) rs seen box long fit fits one = tt
  own_first (starting a) rs seen box long fit fits one =
      stays rs (with_position a.position seen) (set box (a.position - 1) a.set) a.position fits one (added a.position seen fit.0.0.0)
      ∙ get_or-set_same box (a.position - 1) a.set 0 (omega (arith, fit.0.0))

  -- of every rule
  own : (rules : List Rule) (seen : ℕ) (box : List ℕ) → length box ≡ v → Every (RuleFits v n) rules → OneStart seen rules → Every (StartsWith (starts_by rules box)) rules
  unfolding starts_by
  own [] seen box long fits one = tt
  own (r ∷ rs) seen box long fits one =
      (own_first r rs seen box long fits.0 fits.1 one.1, own rs (seen_with r seen) (start_by r box) (by_length v r box long) fits.1 one.1)

module _ (file : File) (within : Within file) where
  -- a position with a starting set starts with it
  pub start_own : Every (StartsWith (start_of file)) file.rules
  unfolding start_of
  start_own = own file.v file.n file.rules 0 (start_box file.v file.n) (start-length file.v file.n) within.rules within.starts

  -- any other position with {1..n}
  pub start_else : (p : ℕ) → (1 ≤ p) × (p ≤ file.v) → Every (NoStartOf p) file.rules → room_at (start_of file) p ≡ full file.n
  unfolding start_of room_at
  start_else p here others =
      reads_on (λ b. room_at b p ≡ full file.n) file.rules (start_box file.v file.n) (each file.rules within.rules others) (full_at file.v file.n (p - 1) (omega arith))
    where
      each : (rules : List Rule) → Every (RuleFits file.v file.n) rules → Every (NoStartOf p) rules
          → Every (λ r. (b : List ℕ) → room_at b p ≡ full file.n → room_at (start_by r b) p ≡ full file.n) rules
      each [] fits others = tt
      each (r ∷ rs) fits others = (λ b e. by-others file.v file.n r p fits.0 here.0 others.0 b ∙ e, each rs fits.1 others.1)

-- ---- files without a starting set

-- the rule is no starting set
abbrev pub NoStart : Rule → Type 0
NoStart (clause atoms) = Unit {0}
NoStart (equality m ps) = Unit {0}
NoStart (starting a) = ⊥
NoStart (at_most k m ps) = Unit {0}

-- it leaves every room
by-none : (rule : Rule) → NoStart rule → (box : List ℕ) → start_by rule box ≡ box
unfolding start_by
by-none (clause atoms) plain box = refl
by-none (equality m ps) plain box = refl
by-none (starting a) plain box = absurd plain
by-none (at_most k m ps) plain box = refl

-- where no rule is one, each room is {1..n}
pub start_plain : (file : File) → Every NoStart file.rules → start_of file ≡ start_box file.v file.n
unfolding start_of
start_plain file plain =
    reads_on (λ b. b ≡ start_box file.v file.n) file.rules (start_box file.v file.n)
    (every_map NoStart (λ r. (b : List ℕ) → b ≡ start_box file.v file.n → start_by r b ≡ start_box file.v file.n) file.rules (λ r none b e. by-none r none b ∙ e) plain) refl

-- ---- rules that are left out

-- starting sets one behind the other
starts-append : (front later : List Rule) (box : List ℕ) → starts_by (front ++ later) box ≡ starts_by later (starts_by front box)
unfolding starts_by
starts-append [] later box = refl
starts-append (r ∷ rs) later box = starts-append rs later (start_by r box)

-- other rules play no part
starts_only : (rules : List Rule) (box : List ℕ) → starts_by (only_starts rules) box ≡ starts_by rules box
unfolding starts_by start_by only_starts
starts_only [] box = refl
starts_only (clause atoms ∷ rules) box = starts_only rules box
starts_only (equality m ps ∷ rules) box = starts_only rules box
starts_only (starting a ∷ rules) box = starts_only rules (start_by (starting a) box)
starts_only (at_most k m ps ∷ rules) box = starts_only rules box

-- a file that is cut behind a field, with all of its starting sets, starts as the file does
pub start-up_to : (place : ℕ) (file : File) → start_of (up_to place file) ≡ start_of file
unfolding start_of up_to
start-up_to place file =
    let box = start_box file.v file.n in
    let front = rules_of (fields_up_to place (fields_of file)) in
    let behind = later place file in
    starts-append front (only_starts behind) box ∙ starts_only behind (starts_by front box) ∙ sym (starts-append front behind box) ∙ ap (λ (rules : List Rule). starts_by rules box) (sym (rules-up_to place file))
