pub mod LadderLaws
pub mod SpecialExactly
pub mod LadderWords
