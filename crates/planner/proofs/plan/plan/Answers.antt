-- `planner::plan::plan` meets its promise: the reply of 01's table, from which the whole promise follows. Assumes nothing.
use Rattle.std.proofs.Common.{ℕ, refl, sym, ap, ◌∙◌, List, ◌<◌, length, get_or, arith}
use Rattle.steps.specs.Reply.{refusal}
use Rattle.steps.specs.Table.{of_reading, reply_of}
use Rattle.searching.specs.declared.reply.Reply.{Reply}
use Rattle.searching.specs.Answered.{told, Answered}
use Rattle.searching.proofs.AnsweredLaws.{answers, nothing_written}
use Rattle.planner.proofs.PromiseLaws.{promise-kept}
use Rattle.planner.proofs.ReplyLaws.{reply_too_long, reply_no_room, reply_too_many, reply-reading}
use Rattle.rules.proofs.Reading.ByteLaws.{bytes_each}
use Rattle.sound.proofs.CheckedLaws.{checked_refused}
use Rattle.planner.proofs.StartRooms.{sound_checked, start-sound, start-full, searched-planned}
use Rattle.planner.specs.Promise.{Planned}
use Rattle.planner.proofs.plan.plan.Goals as goal

-- a call that is answered by 01's table keeps the promise
kept : {input before after : List ℕ} {allowed : ℕ} {r : Reply} → ((i : ℕ) → get_or input i 0 < 256) → Answered (reply_of input (length before) allowed) r before after
    → Planned input before after allowed r
kept {input} {before} {after} {allowed} {r} bytes = promise-kept input before after allowed r (bytes_each input bytes)

pub returns-then-input-gt32768 : goal.returns-then-input-gt32768
returns-then-input-gt32768 c =
    kept (λ i. (c.type_inv.input i).fits) (answers (reply_too_long c.args.input.now (length c.args.answer.now) c.args.allowance (omega arith)) (nothing_written c.refused.ensures refl))

pub returns-then-answer-lt-POSITIONS : goal.returns-then-answer-lt-POSITIONS
returns-then-answer-lt-POSITIONS c =
    kept (λ i. (c.type_inv.input i).fits)
    (answers (reply_no_room c.args.input.now (length c.args.answer.now) c.args.allowance (omega arith) (omega arith)) (nothing_written c.refused-then-answer-lt-POSITIONS.ensures refl))

pub returns-then-allowance-gt1000000 : goal.returns-then-allowance-gt1000000
returns-then-allowance-gt1000000 c =
    kept (λ i. (c.type_inv.input i).fits)
    (answers (reply_too_many c.args.input.now (length c.args.answer.now) c.args.allowance (omega arith) (omega arith) (omega arith))
    (nothing_written c.refused-then-allowance-gt1000000.ensures refl))

pub start_rooms-rooms-requires : goal.start_rooms-rooms-requires
start_rooms-rooms-requires c = sound_checked _ _ _ (sym c.in-Ok.ensures)

pub search_from-requires : goal.search_from-requires
search_from-requires c =
    let s = c.args.input.now in
    let limits = c.in-Ok.limits in
    let checked = sym c.in-Ok.ensures in (
      start-sound s limits.positions limits.values checked c.start_rooms-rooms.ensures,
      start-full s limits.positions limits.values checked c.start_rooms-rooms.ensures,
      omega arith,
      omega arith,
    )

pub returns-in-Ok : goal.returns-in-Ok
unfolding of_reading
returns-in-Ok c =
    let s = c.args.input.now in
    let limits = c.in-Ok.limits in
    let checked = sym c.in-Ok.ensures in
    kept (λ i. (c.type_inv.input i).fits)
    (answers (reply-reading s (length c.args.answer.now) c.args.allowance _ (sound_checked s limits.positions limits.values checked).read (omega arith) (omega arith) (omega arith)
    ∙ sym (searched-planned s limits.positions limits.values checked c.start_rooms-rooms.ensures _)) c.search_from.ensures)

pub returns-in-Err : goal.returns-in-Err
unfolding of_reading
returns-in-Err c =
    let so = checked_refused _ _ _ (sym c.in-Err.ensures) in
    kept (λ i. (c.type_inv.input i).fits)
    (answers (reply-reading c.args.input.now (length c.args.answer.now) c.args.allowance _ so (omega arith) (omega arith) (omega arith))
    (nothing_written (c.refused-in-Err.ensures ∙ ap (λ (number : ℕ). told (refusal number c.in-Err.refusal.place)) c.from.ensures) refl))
