-- The numbers of documents 01 and 02 for what is wrong with a file, and what a test of faults answers. Assumes nothing.
use Rattle.std.specs.Prelude.{ℕ, Result, Ok, Err}
use Rattle.rules.specs.declared.fault.Fault.{Fault}
use Rattle.rules.specs.declared.fault.Fault.TheVariants.{CutOff, NoHeader, SecondHeader, UnknownTag, WrongLength, WrongLimits, WrongPosition, WrongSet, EmptyStart, SecondStart, NamedTwice}

-- the number of a fault
unfoldable pub number_of : Fault → ℕ
number_of CutOff = 13
number_of NoHeader = 14
number_of SecondHeader = 15
number_of UnknownTag = 16
number_of WrongLength = 17
number_of WrongLimits = 18
number_of WrongPosition = 19
number_of WrongSet = 20
number_of EmptyStart = 26
number_of SecondStart = 27
number_of NamedTwice = 36

-- the number of the fault that a test tells, and 0 where it tells none
unfoldable pub number_told : {A : Type 0} → Result A Fault → ℕ
number_told (Ok _) = 0
number_told (Err fault) = number_of fault
