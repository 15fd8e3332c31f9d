pub mod Copying
pub mod Openings
pub mod Chaining
pub mod Returning
pub mod InForce
