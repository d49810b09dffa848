pub mod PromiseExamples
pub mod TookLaws
pub mod TurnExamples
pub mod TurnLaws
pub mod Unique
