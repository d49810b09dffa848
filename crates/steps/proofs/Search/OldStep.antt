pub mod CaseL
pub mod FewerSplits
pub mod IdleSearch
