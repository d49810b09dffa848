pub mod Scans
pub mod Promise
