pub mod Words
pub mod Requests
pub mod Errors
