pub mod Settling
pub mod Ranging
pub mod Alone
