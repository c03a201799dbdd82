pub mod Faultless
pub mod Files
pub mod Image
pub mod Opening
pub mod Reading
pub mod Regions
pub mod Simulated
pub mod Sizes
