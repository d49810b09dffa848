-- The front of the file that has 525 bytes, which the search would count one by one.
use Rattle.std.proofs.Common.{arith, sym}
use Rattle.std.proofs.lemmas.List.{length-take-le}
use Rattle.reading.proofs.long.starting_sets.Goals as goal

pub slice_bounds-show-end-2 : goal.slice_bounds-show-end-2
slice_bounds-show-end-2 g c = sym (length-take-le 517 c.all_started.result (omega (arith, c.all_started.ensures)))
