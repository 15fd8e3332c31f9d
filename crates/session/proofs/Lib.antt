pub mod Parting
pub mod Sessions
pub mod Serving
pub mod Turning
pub mod Chains
pub mod SmallRun
