pub mod BufferLaws
pub mod FrontParts
pub mod PassingLaws
pub mod ListLaws
pub mod LowestLaws
pub mod TakeDrop
pub mod TestLaws
