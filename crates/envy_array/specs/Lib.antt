pub mod Area
pub mod Array
pub mod Step
pub mod Words
