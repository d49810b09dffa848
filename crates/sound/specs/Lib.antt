pub mod Checked
pub mod Promise
pub mod Starts
