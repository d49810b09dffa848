pub mod AtMostParts
pub mod EqualityInTurn
pub mod EqualityParts
pub mod LowestInTurn
pub mod Unique
pub mod UntakenLaws
pub mod LiveAtoms
