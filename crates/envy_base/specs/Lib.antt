pub mod Counting
pub mod Map
pub mod Shape
pub mod State
