pub mod View
pub mod Opened
pub mod Holders
pub mod Given
pub mod Fitting
pub mod Beside
