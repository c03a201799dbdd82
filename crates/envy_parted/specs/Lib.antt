pub mod Codes
pub mod Held
pub mod Lit
pub mod Opening
pub mod Regions
