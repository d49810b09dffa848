pub mod EqualityLooks
pub mod FieldLooks
pub mod LooksInTurn
pub mod ShrinkRounds
pub mod Unique
