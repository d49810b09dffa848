-- `texts::Text::behind` meets its contract: the space, and then the number. Assumes nothing.
use Rattle.std.proofs.Common.{sym, [], ◌∷◌}
use Rattle.texts.specs.Bytes.{decimal}
use Rattle.texts.proofs.GrownLaws.{grown_whole}
use Rattle.texts.proofs.SpacedLaws.{behind_one}
use Rattle.texts.proofs.Text.behind.Goals as goal

pub returns : goal.returns
returns c = grown_whole c.args.self.now (32 ∷ []) (decimal c.args.n) (sym (behind_one c.args.n)) c.byte.ensures c.number.ensures
