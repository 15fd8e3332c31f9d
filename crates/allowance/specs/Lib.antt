pub mod Allowance
pub mod Wrong
pub mod Larger
pub mod Cases
pub mod Excluded
