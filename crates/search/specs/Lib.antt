pub mod Numbers
pub mod Rooms
pub mod Starts
pub mod Candidates
pub mod Caps
