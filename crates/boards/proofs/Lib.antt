pub mod Ascending
pub mod Showing
pub mod Looking
pub mod Boarding
pub mod Feeders
