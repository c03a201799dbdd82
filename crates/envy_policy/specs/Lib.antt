pub mod Choice
pub mod Deciding
pub mod Heats
pub mod History
pub mod Lifetime
pub mod Notes
pub mod Setup
