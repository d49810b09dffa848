pub mod ChosenFields
pub mod Unique
