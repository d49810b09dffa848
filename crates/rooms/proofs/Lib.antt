pub mod HeldLaws
pub mod LookLaws
