pub mod Paged
pub mod Lengths
pub mod Parts
pub mod Staying
pub mod Viewing
