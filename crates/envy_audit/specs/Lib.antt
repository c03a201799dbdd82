pub mod Copying
pub mod Finding
pub mod Judging
pub mod Points
pub mod Tables
