pub mod HeaderLaws
pub mod CheckLaws
pub mod CheckedLaws
pub mod Unique
pub mod StartedLaws
