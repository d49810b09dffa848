-- The search of a box that was shrunk: what is known of it, and what each end and each split comes to. Assumes nothing.
use mathlib.Core.Path.{◌≡◌, refl, sym, ap, ◌∙◌, subst}
use mathlib.Core.Logic.{◌↔◌}
use mathlib.Core.Bool.{Bool, true, false}
use mathlib.Core.List.{List}
use Prim.Native.Nat.{ℕ, ◌+◌, ◌≤◌, ◌<◌}
use native.Mathlib.Omega.{arith}
use lib.Dec.{leb}
use lib.ListN.{length, get_or}
use Rattle.std.specs.Prelude.{Result, Ok, Err, Some, None}
use borrow.Author.Tests.{le-leb, lt-leb}
use Rattle.sets.specs.Sets.{count}
use Rattle.rules.specs.Rules.{Field}
use Rattle.rules.specs.Sound.{fields_in}
use Rattle.steps.specs.Boxes.{open_values, BoxInside, Rooms, smallest_of, first_half, other_half}
use Rattle.steps.specs.Shrinking.{Look, alive, shrunk, settled}
use Rattle.lists.specs.Buffer.{over}
use Rattle.steps.specs.Reply as steps
use Rattle.steps.specs.Reply.{ended, plan, none, undecided}
use Rattle.steps.specs.Search.{chosen, if_none, after_shrinking, searched}
use Rattle.steps.proofs.Boxes.BoxLaws.{box-inside-length}
use Rattle.steps.proofs.Boxes.BoxSizes.{first_half-inside, other_half-inside, first_half-rooms, other_half-rooms, first_half_falls, other_half_falls}
use Rattle.steps.proofs.Looks.FittingRules.{FieldsFit, FitsBox, fits-inside}
use Rattle.steps.proofs.Looks.ShrinkLaws.{shrunk-inside}
use Rattle.steps.proofs.Search.Chosen.{chosen-most, chosen_two}
use Rattle.steps.proofs.Search.AlwaysSplits.{settled-exactly}
use Rattle.rooms.specs.Held.{Held}
use Rattle.boxes.specs.declared.shrink.Dead.{Dead}
use Rattle.choosing.specs.Promise.{Chooses}
use Rattle.choosing.proofs.ChosenFields.{index-found, index-missing, index_below-bound}
use Rattle.splitting.specs.declared.halves.Half.TheVariants as HalfVariants
use Rattle.splitting.specs.Promise.{half_of, KeepsHalf}
use Rattle.boxes.specs.declared.shrink.Shrunk.{Shrunk}
use Rattle.boxes.specs.Promise.{Shrinks}
use Rattle.searching.specs.declared.reply.Reply.{Reply}
use Rattle.searching.specs.Answered.{told, Answered, found_by, WasShrunk, Counts}
use Rattle.searching.specs.Promise.{Searches}
use Rattle.searching.proofs.AnsweredLaws.{answers, nothing_written}
use Rattle.searching.proofs.ShrunkBoxes.{open_found, open-found, shrunk-found, shrunk-length, was-shrunk, searched-found}
use Rattle.steps.proofs.Search.Split.{none_later, other_stays}
use Rattle.steps.proofs.Search.Counts.{search_counts, search-written}

-- ---- a call of the search

-- what it is given
pub record Given : Type 0 where
  pub input : List ℕ
  pub verdict : Result (Unit {0}) Dead
  pub rooms : Held
  pub allowed : ℕ
  pub splits : ℕ
  pub dead_ends : ℕ
  pub before : List ℕ
  pub was : WasShrunk input verdict rooms
  pub fits : FieldsFit (length rooms.box) (fields_in input)

module _ (given : Given) where
  abbrev fields : List Field
  fields = fields_in given.input

  abbrev box : List ℕ
  box = given.was.box

  -- the rooms that shrinking left
  abbrev inner : List ℕ
  inner = given.rooms.box

  abbrev pub look : Look
  look = found_by given.verdict given.rooms

  abbrev allowed : ℕ
  allowed = given.allowed

  abbrev s : ℕ
  s = given.splits

  abbrev d : ℕ
  d = given.dead_ends

  -- the reply r, with the buffer as it is afterwards, is what the search of the box gives
  abbrev pub Ends : Reply → List ℕ → Type 0
  Ends r after = Answered (after_shrinking fields (leb allowed) look s d (searched fields allowed)) r given.before after

  -- the rules fit the box
  box_fits : FitsBox fields box
  box_fits = subst (λ (k : ℕ). FieldsFit k fields) (sym given.was.positions) given.fits

  -- a box that lives: the rooms are the shrunk box
  pub record Saved : Type 0 where
    pub lives : look ≡ alive inner
    pub shrank : shrunk fields box ≡ alive inner
    pub inside : BoxInside inner box
    pub full : Rooms inner

  pub saved_of : given.verdict ≡ Ok tt → Saved
  unfolding found_by
  saved_of e =
      let lives : look ≡ alive inner = ap (λ (w : Result (Unit {0}) Dead). found_by w given.rooms) e in
      let shrank = sym given.was.found ∙ lives in
      let i = shrunk-inside fields box inner given.was.full shrank in
      record { lives = lives; shrank = shrank; inside = i.0; full = i.1 }

  -- ---- the ends of a box that is not split

  pub ends-dead : (field : Dead) → given.verdict ≡ Err field → {r : Reply} → r ≡ told (none field.place s (d + 1)) → Ends r given.before
  unfolding found_by
  ends-dead field e q =
      answers (ap (λ (w : Result (Unit {0}) Dead). after_shrinking fields (leb allowed) (found_by w given.rooms) s d (searched fields allowed)) e) (nothing_written q refl)

  -- a shrunk box in which no room is left to split is settled
  module _ (kept : Saved) where
    exactly : (settled fields inner ≡ true) ↔ (chosen fields inner ≡ length inner)
    exactly = settled-exactly fields box inner given.was.full box_fits kept.shrank

    is-settled : length inner ≤ chosen fields inner → settled fields inner ≡ true
    is-settled l = exactly.1 (omega (arith, chosen-most fields inner))

    -- and one with such a room is not
    is_open : chosen fields inner < length inner → settled fields inner ≡ false
    is_open l = go (settled fields inner) refl
      where
        go : (b : Bool) → settled fields inner ≡ b → settled fields inner ≡ false
        go true e = absurd (omega (arith, exactly.0 e))
        go false e = e

    pub ends-settled : Chooses given.input given.rooms None → {after : List ℕ} → after ≡ over (smallest_of inner) given.before → {r : Reply} → r ≡ told (ended 0 0 s d) → Ends r after
    ends-settled none m q =
        answers {given = plan (smallest_of inner) s d} (rw (kept.lives, is-settled (index-missing (length inner) (chosen fields inner) none)) refl) (record { reply = q; memory = m })

  -- ---- a box that is split at an index

  -- what may be searched next: it was found by shrinking, there are as many rooms, and fewer open values
  pub record Next (verdict : Result (Unit {0}) Dead) (rooms : Held) : Type 0 where
    pub was : WasShrunk given.input verdict rooms
    pub same : length rooms.box ≡ length inner
    pub falls : open_found (found_by verdict rooms) < open_found look

  pub record Split (i : ℕ) : Type 0 where
    pub kept : Saved
    pub chooses : Chooses given.input given.rooms (Some i)

  module _ {i : ℕ} (split : Split i) where
    at : i ≡ chosen fields inner
    at = index-found (length inner) (chosen fields inner) split.chooses

    -- it is the index of a room
    pub inside : i < length inner
    inside = index_below-bound (length inner) (chosen fields inner) split.chooses

    -- the search of the first half, and of the other with the counts so far
    abbrev begun : steps.Reply
    begun = searched fields allowed (first_half i inner) (s + 1) d

    abbrev later : ℕ → ℕ → steps.Reply
    later = searched fields allowed (other_half i inner)

    unsettled : settled fields inner ≡ false
    unsettled = is_open split.kept (omega (arith, at, inside))

    pub ends-undecided : allowed ≤ s → {r : Reply} → r ≡ told (undecided s d) → Ends r given.before
    ends-undecided l q = answers (rw (split.kept.lives, unsettled, le-leb allowed s l) refl) (nothing_written q refl)

    -- with splits left it is the first half's reply, and after NONE the other half's
    whole : s < allowed → after_shrinking fields (leb allowed) look s d (searched fields allowed) ≡ if_none begun later
    whole l = rw (split.kept.lives, unsettled, lt-leb allowed s l, at) refl

    wide : 2 ≤ count (get_or inner i 0)
    wide = subst (λ (j : ℕ). 2 ≤ count (get_or inner j 0)) (sym at) (chosen_two fields inner (omega (arith, at, inside)))

    -- ---- the halves: rooms that are a half of the box, which has fewer open values

    pub record Half (part : List ℕ) (rooms : Held) : Type 0 where
      pub front : rooms.box ≡ part
      pub inward : BoxInside part inner
      pub full : Rooms part
      pub fewer : open_values part < open_values inner

    abbrev pub First : Held → Type 0
    First rooms = Half (first_half i inner) rooms

    abbrev pub Other : Held → Type 0
    Other rooms = Half (other_half i inner) rooms

    pub first_of : {half : Held} → KeepsHalf HalfVariants.First given.rooms i half → First half
    unfolding half_of
    first_of e = record {
      front = ap (λ (h : Held). h.box) e;
      inward = first_half-inside inner i split.kept.full inside wide;
      full = first_half-rooms inner i split.kept.full inside wide;
      fewer = first_half_falls inner i split.kept.full inside wide;
    }

    pub other_of : {half : Held} → KeepsHalf HalfVariants.Other given.rooms i half → Other half
    unfolding half_of
    other_of e = record {
      front = ap (λ (h : Held). h.box) e;
      inward = other_half-inside inner i split.kept.full inside wide;
      full = other_half-rooms inner i split.kept.full inside wide;
      fewer = other_half_falls inner i split.kept.full inside wide;
    }

    module _ {part : List ℕ} {rooms : Held} (half : Half part rooms) where
      -- its rooms are not empty
      pub half-rooms : Rooms rooms.box
      half-rooms = subst Rooms (sym half.front) half.full

      -- there are as many
      pub half_length : length rooms.box ≡ length inner
      half_length = ap length half.front ∙ box-inside-length part inner half.inward

      half_fits : FitsBox fields part
      half_fits = fits-inside fields part inner half.inward (fits-inside fields inner box split.kept.inside box_fits)

      module _ {r : Shrunk} {left : Held} (answer : Shrinks given.input rooms r left) where
        half-found : found_by r.verdict left ≡ shrunk fields part
        half-found = shrunk-found given.input rooms half-rooms answer ∙ ap (shrunk fields) half.front

        -- shrunk, it may be searched next
        pub half_next : Next r.verdict left
        half_next = record {
          was = was-shrunk given.input rooms half-rooms answer;
          same = shrunk-length given.input rooms half-rooms answer ∙ half_length;
          falls = omega (arith, ap open_found half-found, open-found fields part half.full, half.fewer, ap open_found split.kept.lives);
        }

        -- and its search is that of the half
        pub half-searched : (s' d' : ℕ) {q : Reply} {b a : List ℕ} → Searches given.input allowed r.verdict left s' d' b q a → Answered (searched fields allowed part s' d') q b a
        half-searched s' d' = answers (sym (searched-found fields part half.full half_fits half-found allowed s' d'))

    -- ---- the replies of both halves

    -- what was found in the first half
    abbrev pub Begun : Reply → List ℕ → Type 0
    Begun r mid = Answered begun r given.before mid

    module _ {half : Held} (first : First half) (r : Reply) {mid : List ℕ} (found : Begun r mid) where
      number_same : begun.number ≡ r.number
      number_same = sym (ap (λ (q : Reply). q.number) found.reply)

      -- a reply of the first half that is not NONE is the reply
      pub ends-first : s < allowed → (r.number ≡ 1 → ⊥) → Ends r mid
      ends-first l ne = answers {given = begun} (whole l ∙ other_stays begun later (λ e. ne (sym number_same ∙ e))) found

      -- NONE left the buffer as it was
      pub none_kept : r.number ≡ 1 → mid ≡ given.before
      none_kept e = found.memory ∙ ap (λ (xs : List ℕ). over xs given.before) (search-written fields (first_half i inner) first.full (half_fits first) allowed (s + 1) d (λ z. omega (arith, number_same)))

      -- after NONE the other half's reply is the reply
      pub ends_second : s < allowed → r.number ≡ 1 → {q : Reply} {after : List ℕ}
          → Answered (searched fields allowed (other_half i inner) r.splits r.dead_ends) q mid after → Ends q after
      ends_second l e {q} {after} h =
          answers {given = later begun.splits begun.dead_ends} (whole l ∙ none_later begun later (number_same ∙ e))
          (subst (λ (b : List ℕ). Answered (later begun.splits begun.dead_ends) q b after) (none_kept e)
          (subst (λ (g : Reply). Answered (later g.splits g.dead_ends) q mid after) found.reply h))

      -- the counts after the first half's search fit
      pub first_counted : Counts allowed s d → s < allowed → Counts allowed r.splits r.dead_ends
      first_counted c l =
          let counted = search_counts fields (first_half i inner) first.full (half_fits first) allowed (s + 1) d (omega arith) in
          let splits : r.splits ≡ begun.splits = ap (λ (g : Reply). g.splits) found.reply in
          let ends : r.dead_ends ≡ begun.dead_ends = ap (λ (g : Reply). g.dead_ends) found.reply in
          record { ceiling = c.ceiling; within = omega (arith, counted.within); fewer = omega (arith, counted.fewer, counted.more, c.fewer) }
