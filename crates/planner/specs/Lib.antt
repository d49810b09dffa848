pub mod Promise
pub mod Most
pub mod Later
