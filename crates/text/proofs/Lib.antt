pub mod Values
pub mod Splitting
pub mod Printing
pub mod Blocks
