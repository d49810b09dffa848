pub mod StartLaws
pub mod StartLooks
pub mod StartExamples
