pub mod RowLaws
pub mod Unique
pub mod WordExamples
pub mod WordLaws
