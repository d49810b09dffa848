pub mod FirstWide
pub mod Promise
