pub mod Steps
pub mod Minutes
pub mod Shows
pub mod Balance
pub mod Loads
