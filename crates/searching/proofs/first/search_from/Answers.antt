-- `searching::first::search_from` meets its contract: what shrinking has found is searched, and its rounds are told. Assumes nothing.
use Rattle.std.proofs.Common.{ℕ, sym, subst, arith, rules, length}
use Rattle.rules.specs.Sound.{SoundInput}
use Rattle.steps.proofs.Looks.FittingRules.{sound_fits}
use Rattle.searching.specs.Promise.{Searches}
use Rattle.searching.proofs.ShrunkBoxes.{shrunk-length, was-shrunk, found_from}
use Rattle.searching.proofs.first.search_from.Goals as goal

pub search-reply-requires : goal.search-reply-requires
search-reply-requires c =
    let a = c.args in (
      subst (SoundInput a.input.now) (sym (shrunk-length a.input.now a.rooms c.requires.1 c.shrink-shrunk.ensures)) c.requires.0,
      was-shrunk a.input.now a.rooms c.requires.1 c.shrink-shrunk.ensures,
      record { ceiling = omega arith; within = omega arith; fewer = omega arith },
      c.requires.3,
    )

pub returns : goal.returns
returns c =
    let a = c.args in
    let searched : Searches a.input.now a.allowed c.shrink-shrunk.result.verdict c.shrink-shrunk.new.rooms 0 0 a.answer.now c.search-reply.result c.search-reply.new.answer = search rules in
    found_from a.input.now a.rooms c.requires.1 c.shrink-shrunk.ensures (sound_fits a.input.now (length a.rooms.box) c.requires.0) a.allowed searched (search rules)
