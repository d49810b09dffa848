pub mod CountLaws
pub mod CutLaws
pub mod RuleLooks
pub mod Unique
