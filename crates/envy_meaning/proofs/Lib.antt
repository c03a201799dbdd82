pub mod Ending
pub mod Owners
pub mod Putting
pub mod Standing
