-- `texts::Text::byte` meets its contract: a full text stays, and any other has the byte stored behind its bytes. Assumes nothing.
use Rattle.std.proofs.Common.{arith, sym}
use Rattle.texts.specs.Grown.{grown}
use Rattle.texts.proofs.GrownLaws.{put_room, put_full}
use Rattle.texts.proofs.Text.byte.Goals as goal

pub returns-then-self-lt-ROOM : goal.returns-then-self-lt-ROOM
unfolding grown
returns-then-self-lt-ROOM c = sym (put_room c.args.self.now c.args.b (omega arith))

pub returns-else-self-lt-ROOM : goal.returns-else-self-lt-ROOM
unfolding grown
returns-else-self-lt-ROOM c = sym (put_full c.args.self.now c.args.b (omega arith))
