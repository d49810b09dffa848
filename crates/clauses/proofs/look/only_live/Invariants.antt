-- The loop of `clauses::look::only_live`: what the scan has met of the atoms that were passed. Assumes nothing.
use Rattle.std.proofs.Common.{length}
use Rattle.rules.specs.Contents.{AtomsFit}
use Rattle.clauses.specs.Scans.{Scanned}
use Rattle.clauses.proofs.look.only_live.Given as goal

abbrev pub invariant-loop-atom : goal.invariant-loop-atom
invariant-loop-atom l = AtomsFit (length l.rooms.box) l.atom-iterator × Scanned l.rooms.box l.fn.left l.atom-iterator l.met.position l.met.kept l.kept
