-- What the two counts of "at most k" are. The contract of the inner function that makes them cites this. Assumes nothing.
use Rattle.std.specs.Prelude.{◌≡◌, List, ℕ}
use Rattle.steps.specs.Shrinking.{inside_count, meeting_count}
use Rattle.at_most.specs.declared.rule.Counts.{Counts}

-- how many of the positions have rooms of the box inside the set, and how many have rooms that meet it
abbrev pub Counted : ℕ → List ℕ → List ℕ → Counts → Type 0
Counted m ps box r = (r.inside ≡ inside_count m ps box) × (r.meeting ≡ meeting_count m ps box)
