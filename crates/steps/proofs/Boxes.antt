pub mod BoxLaws
pub mod BoxSizes
pub mod Lowered
