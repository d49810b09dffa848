pub mod DigitLaws
pub mod GrownExamples
pub mod GrownLaws
pub mod ReadBack
pub mod SpacedLaws
pub mod Unique
