pub mod Lists
pub mod Buffer
pub mod Lowest
pub mod Passing
