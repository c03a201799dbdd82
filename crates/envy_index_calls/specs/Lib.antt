pub mod Attempts
pub mod Checked
pub mod Indexed
pub mod Loaded
pub mod Loading
pub mod Ranged
pub mod Ranges
pub mod Scanned
