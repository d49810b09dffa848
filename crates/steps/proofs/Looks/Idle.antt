pub mod AtMost
pub mod ButForIdle
pub mod Clauses
pub mod Shrinking
