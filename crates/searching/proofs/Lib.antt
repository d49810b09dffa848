pub mod AnsweredLaws
pub mod ShrunkBoxes
pub mod Turns
pub mod Unique
