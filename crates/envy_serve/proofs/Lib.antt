pub mod Advancing
pub mod Counts
pub mod Earlier
pub mod GoodTraces
pub mod Looping
pub mod Reading
