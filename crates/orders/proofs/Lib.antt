pub mod Parts
pub mod Windows
pub mod Seeking
pub mod Drawings
