pub mod Ready
pub mod Testing
pub mod Refusals
pub mod Replanning
