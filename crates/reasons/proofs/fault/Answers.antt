-- `reasons::fault` meets its contract: each number has the words that `faults` has in its place. Assumes nothing.
use Rattle.std.proofs.Common.{arith, sym, ap}
use Rattle.texts.specs.Bytes.{bytes_of}
use Rattle.reasons.specs.Words.{faults, fault_of}
use Rattle.reasons.proofs.WordLaws.{fault_other}
use Rattle.reasons.proofs.fault.Goals as goal

pub returns-in-10 : goal.returns-in-10
unfolding fault_of faults bytes_of
returns-in-10 c = sym (ap fault_of c.in-10.is)

pub returns-in-11 : goal.returns-in-11
unfolding fault_of faults bytes_of
returns-in-11 c = sym (ap fault_of c.in-11.is)

pub returns-in-12 : goal.returns-in-12
unfolding fault_of faults bytes_of
returns-in-12 c = sym (ap fault_of c.in-12.is)

pub returns-in-13 : goal.returns-in-13
unfolding fault_of faults bytes_of
returns-in-13 c = sym (ap fault_of c.in-13.is)

pub returns-in-14 : goal.returns-in-14
unfolding fault_of faults bytes_of
returns-in-14 c = sym (ap fault_of c.in-14.is)

pub returns-in-15 : goal.returns-in-15
unfolding fault_of faults bytes_of
returns-in-15 c = sym (ap fault_of c.in-15.is)

pub returns-in-16 : goal.returns-in-16
unfolding fault_of faults bytes_of
returns-in-16 c = sym (ap fault_of c.in-16.is)

pub returns-in-17 : goal.returns-in-17
unfolding fault_of faults bytes_of
returns-in-17 c = sym (ap fault_of c.in-17.is)

pub returns-in-18 : goal.returns-in-18
unfolding fault_of faults bytes_of
returns-in-18 c = sym (ap fault_of c.in-18.is)

pub returns-in-19 : goal.returns-in-19
unfolding fault_of faults bytes_of
returns-in-19 c = sym (ap fault_of c.in-19.is)

pub returns-in-20 : goal.returns-in-20
unfolding fault_of faults bytes_of
returns-in-20 c = sym (ap fault_of c.in-20.is)

pub returns-in-26 : goal.returns-in-26
unfolding fault_of faults bytes_of
returns-in-26 c = sym (ap fault_of c.in-26.is)

pub returns-in-27 : goal.returns-in-27
unfolding fault_of faults bytes_of
returns-in-27 c = sym (ap fault_of c.in-27.is)

pub returns-in-36 : goal.returns-in-36
unfolding fault_of faults bytes_of
returns-in-36 c = sym (ap fault_of c.in-36.is)

pub returns-in_default : goal.returns-in_default
unfolding faults bytes_of
returns-in_default c = sym (fault_other c.args.number (omega arith))
