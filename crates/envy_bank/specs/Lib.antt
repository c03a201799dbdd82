pub mod Chips
pub mod Kept
pub mod Lanes
pub mod Rows
pub mod Commands
