pub mod PositionLaws
pub mod PrintedApart
pub mod PrintedExamples
pub mod ReadBack
pub mod TextExamples
pub mod TextLaws
pub mod Unique
