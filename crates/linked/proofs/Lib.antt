pub mod Masks
pub mod Unique
