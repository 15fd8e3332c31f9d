pub mod Lines
pub mod Pages
pub mod Lined
pub mod Cases
pub mod LawsOfPages
pub mod LawsOfWalls
pub mod LawsOfCases
