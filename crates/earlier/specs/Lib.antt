pub mod Earlier
pub mod Unrated
pub mod Untailed
pub mod Single
pub mod LawsOfBefore
