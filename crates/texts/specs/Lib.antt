pub mod Bytes
pub mod Grown
pub mod Promise
pub mod ReadBack
