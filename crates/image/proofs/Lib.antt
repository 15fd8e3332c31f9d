pub mod Imaging
pub mod SavedImages
pub mod Answering
