pub mod Crowding
pub mod Weighing
pub mod Choosing
