pub mod Codes
pub mod Places
pub mod Power
pub mod Syncing
