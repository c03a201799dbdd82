pub mod Regions
pub mod CodeLemmas
pub mod Changes
pub mod OnePut
pub mod Readings
pub mod Going
pub mod Sizes
pub mod Filling
