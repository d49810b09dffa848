pub mod Turn
pub mod Promise
