pub mod Begun
pub mod Filling
pub mod Opened
pub mod Saved
