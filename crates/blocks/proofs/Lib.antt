pub mod Filling
pub mod Checking
pub mod Taking
pub mod Putting
pub mod Chunks
