pub mod Backwards
pub mod Faults
pub mod Image
pub mod Installing
pub mod Reading
pub mod Writing
pub mod Segments
