pub mod Examples
pub mod LargerAllowance
pub mod RulesAdded
