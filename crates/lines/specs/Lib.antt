pub mod OnLine
pub mod Next
pub mod Lines
pub mod Rounds
