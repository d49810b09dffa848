pub mod Held
pub mod Looks
pub mod Whole
