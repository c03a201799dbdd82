pub mod Lawful
pub mod Ranges
