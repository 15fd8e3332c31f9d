pub mod Reading
pub mod Opening
