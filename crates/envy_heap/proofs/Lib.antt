pub mod Heaps
pub mod Broken
pub mod Loading
