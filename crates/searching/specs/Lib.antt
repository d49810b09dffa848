pub mod Answered
pub mod Promise
