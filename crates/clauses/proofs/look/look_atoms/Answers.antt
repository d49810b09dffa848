-- `clauses::look::look_atoms` meets its contract: by what the two scans have met. Assumes nothing.
use Rattle.std.proofs.Common.{length, subst, sym}
use Rattle.rules.specs.Contents.{AtomsFit}
use Rattle.clauses.proofs.ScanLaws.{met-there, looks-dead, looks_same, looks_cut}
use Rattle.clauses.proofs.look.look_atoms.Goals as goal

pub first_live-requires : goal.first_live-requires
first_live-requires c = subst (AtomsFit (length c.args.rooms.now.box)) (sym c.atoms-left.ensures) c.requires.fit

pub returns-in_default : goal.returns-in_default
returns-in_default c = looks-dead c.atoms-left.ensures c.in_default.ensures

pub only_live-requires : goal.only_live-requires
only_live-requires c = c.in-Some.ensures.1

pub put-requires : goal.put-requires
put-requires c = met-there c.in-Some.ensures.0

pub returns-in-Some-only_live : goal.returns-in-Some-only_live
returns-in-Some-only_live c = looks_cut c.atoms-left.ensures c.in-Some.ensures.0 c.in-Some-only_live.ensures c.put.ensures

pub returns-in_default-only_live : goal.returns-in_default-only_live
returns-in_default-only_live c = looks_same c.atoms-left.ensures c.in-Some.ensures.0 c.in_default-only_live.ensures
