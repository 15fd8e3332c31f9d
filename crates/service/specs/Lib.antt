pub mod Left
pub mod Named
