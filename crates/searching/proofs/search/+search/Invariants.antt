-- `searching::search::search`: the measure is the number of open values of what was found, which falls with either half. Assumes nothing.
use Rattle.searching.specs.Answered.{found_by}
use Rattle.searching.proofs.ShrunkBoxes.{open_found}
use Rattle.searching.proofs.search.+search.Given as goal

abbrev pub decreases-search : goal.decreases-search
decreases-search l = open_found (found_by l.verdict l.rooms)
