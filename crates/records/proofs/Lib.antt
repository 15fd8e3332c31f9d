pub mod Begun
pub mod Packing
pub mod Joining
pub mod Columning
pub mod StationRead
