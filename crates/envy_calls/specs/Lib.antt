pub mod Answers
pub mod Bulk
pub mod Codes
pub mod Making
pub mod Reserves
pub mod Setups
pub mod Shapes
pub mod Views
