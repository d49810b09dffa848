pub mod FaultLaws
pub mod NamingLaws
pub mod Unique
