-- Two inputs for which the same text is printed have the same reply but for its rounds, `printed_apart`, and plans the same values, `printed-values_apart`. Assumes nothing.
use mathlib.Core.Path.{◌≡◌, refl, sym, ap, ◌∙◌, subst}
use mathlib.Core.List.{List}
use Prim.Native.Nat.{ℕ, ◌^◌, ◌≤◌, ◌<◌}
use native.Mathlib.Decide.{dec_le}
use native.Mathlib.Omega.{arith}
use lib.ListN.{length, take, replicate}
use Rattle.lists.specs.Lists.{Every}
use Rattle.rules.specs.Rules.{File}
use Rattle.rules.specs.Reading.{Reading, sound, refused, reading}
use Rattle.lists.proofs.ListLaws.{every_map}
use Rattle.rules.proofs.Reading.RefusalLaws.{refused_range, refused-place}
use Rattle.rules.proofs.Writing.RoundTrip.{written_of-read}
use Rattle.steps.specs.Table.{planned, of_reading}
use Rattle.searching.specs.declared.reply.Reply.{Reply}
use Rattle.searching.specs.Answered.{told}
use Rattle.planner.specs.Promise.{Accepted, Planned}
use Rattle.planner.proofs.EveryReply.{reply_limits}
use Rattle.planner.proofs.ReplyLaws.{of_every-reply, read_counts}
use Rattle.lines.specs.declared.answer.Output.{Output}
use Rattle.texts.specs.Grown.{shown}
use Rattle.texts.proofs.GrownLaws.{shown_line}
use Rattle.lines.specs.Text.{text_of}
use Rattle.lines.specs.Printed.{Printed, positions_of}
use Rattle.lines.specs.ReadBack.{printed_part}
use Rattle.lines.proofs.ReadBack.{Printable, ends, refuses, Few, texts_apart, values_apart}

-- every reply that the planner promises can be read back, but for its rounds
pub promised_printable : (input before after : List ℕ) (allowed : ℕ) (r : Reply) → Planned input before after allowed r → Printable (printed_part r)
unfolding of_reading
promised_printable input before after allowed r promised =
    subst (λ (s : Reply). Printable (printed_part s)) (sym promised.answered.reply)
    (of_every-reply input (length before) allowed (λ g. r ≡ told g → Printable (printed_part (told g))) (λ number low high is. refuses number 0 (omega arith) (omega arith) (omega arith)) read promised.answered.reply)
  where
    read : (found : Reading) → reading input ≡ found → length input ≤ 32768 → 64 ≤ length before → allowed ≤ 1000000 → r ≡ told (of_reading found allowed) → Printable (printed_part (told (of_reading found allowed)))
    read (sound file) e short roomy modest is =
        let accepted : Accepted input before allowed file = record { short = short; roomy = roomy; modest = modest; read = e } in
        let low = promised.decided file accepted in
        let found = planned file allowed in
        let same : r.number ≡ found.number = ap (λ (s : Reply). s.number) is in
        let counts = read_counts input file e allowed in
        let nowhere : (found.number ≡ 1 → ⊥) → found.place ≡ 0 = λ other. sym (ap (λ (s : Reply). s.place) is) ∙ promised.placeless file accepted (λ both. other (sym same ∙ both.0)) in
        let near : found.place ≤ 32768 = subst (λ (s : Reply). s.place ≤ 32768) is (reply_limits input before after allowed r promised).place in
        ends found.number found.place found.splits found.dead_ends (omega arith) nowhere (omega arith) (omega (arith, counts.within)) (omega (arith, counts.within, counts.fewer))
    read (refused number place) e short roomy modest is =
        let range = refused_range input number place e in
        refuses number place (omega arith) (omega arith) (omega (arith, refused-place input number place e))

-- the values that are printed for an input, where its reply is a plan
values_in : (input : List ℕ) {output : Output} → Printed input output → List ℕ
values_in input p = take (positions_of (reading input)) p.after

-- one text is the text of both replies, whatever their rounds
both_texts : (input other : List ℕ) (a b : Output) (p : Printed input a) (q : Printed other b) → a.printed ≡ b.printed
    → text_of (printed_part p.reply) (values_in input p) ≡ text_of (printed_part q.reply) (values_in other q)
unfolding values_in text_of
both_texts input other a b p q same = sym (shown_line _) ∙ ap shown (sym p.printed ∙ same ∙ q.printed) ∙ shown_line _

-- the same text, the same reply but for its rounds
pub printed_apart : (input other : List ℕ) (a b : Output) (p : Printed input a) (q : Printed other b) → a.printed ≡ b.printed
    → printed_part p.reply ≡ printed_part q.reply
printed_apart input other a b p q same =
    texts_apart (values_in input p) (values_in other q) (promised_printable input (replicate 64 0) p.after 100000 p.reply p.planned)
    (promised_printable other (replicate 64 0) q.after 100000 q.reply q.planned) (both_texts input other a b p q same)

-- ---- values

module _ (input after : List ℕ) (r : Reply) (bytes : Every (λ b. b < 256) input) (promised : Planned input (replicate 64 0) after 100000 r) (plan : r.number ≡ 0) where
  -- a plan is the reply to a file that is accepted
  plan_accepted : ((file : File) → Accepted input (replicate 64 0) 100000 file → ⊥) → ⊥
  plan_accepted nobody = omega (arith, promised.refused nobody)

  -- and so not to an input that is too long
  plan-short : length input ≤ 32768
  plan-short = go (dec_le (length input) 32768)
    where
      go : Dec (length input ≤ 32768) → length input ≤ 32768
      go (yes le) = le
      go (no gt) = absurd (plan_accepted λ file accepted. gt accepted.short)

  plan-values : (found : Reading) → reading input ≡ found → Few (take (positions_of found) after)
  unfolding positions_of
  plan-values (sound file) e =
      let accepted : Accepted input (replicate 64 0) 100000 file = record { short = plan-short; roomy = omega arith; modest = omega arith; read = e } in
      let first = promised.first file accepted plan in
      let within = (written_of-read input bytes file e).1 in
      (omega (arith, first.0.0.0, within.positions), every_map (λ x. (1 ≤ x) × (x ≤ file.n)) (λ x. x < 10 ^ 20) (take file.v after) (λ x h. omega (arith, within.values)) first.0.0.1)
  plan-values (refused number place) e = absurd (plan_accepted λ file accepted. let z : ◌≡◌ {A = ℕ} 0 1 = cc accepted.read in omega arith)

-- the same text of a plan, the same values
pub printed-values_apart : (input other : List ℕ) (a b : Output) (p : Printed input a) (q : Printed other b) → a.printed ≡ b.printed
    → Every (λ b. b < 256) input → Every (λ b. b < 256) other → p.reply.number ≡ 0
    → take (positions_of (reading input)) p.after ≡ take (positions_of (reading other)) q.after
unfolding values_in
printed-values_apart input other a b p q same bytes also plan =
    let too : q.reply.number ≡ 0 = ap (λ (r : Reply). r.number) (sym (printed_apart input other a b p q same)) ∙ plan in
    values_apart (printed_part p.reply) (printed_part q.reply) (values_in input p) (values_in other q) plan too
    (plan-values input p.after p.reply bytes p.planned plan (reading input) refl)
    (plan-values other q.after q.reply also q.planned too (reading other) refl)
    (both_texts input other a b p q same)
