pub mod Causes
pub mod Others
pub mod Starts
pub mod Ready
pub mod Placed
pub mod Answers
pub mod Judged
