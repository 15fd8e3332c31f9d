pub mod Rows
pub mod Seeking
pub mod Answering
pub mod Taking
