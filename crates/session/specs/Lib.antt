pub mod Session
pub mod Turns
pub mod LawsOfChains
