pub mod Places
pub mod Contents
