pub mod LowestBy
pub mod Meeting
pub mod Promise
pub mod Untaken
