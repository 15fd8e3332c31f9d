pub mod Numbers
pub mod Crowds
pub mod Chosen
