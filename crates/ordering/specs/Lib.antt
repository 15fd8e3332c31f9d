pub mod Ordered
pub mod Answers
pub mod Grants
