pub mod Arrays
pub mod Drawn
pub mod Held
pub mod Places
pub mod Starts
pub mod Zeros
