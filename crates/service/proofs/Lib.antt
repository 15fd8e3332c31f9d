pub mod Telling
pub mod Serving
