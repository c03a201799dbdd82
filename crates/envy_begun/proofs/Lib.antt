pub mod Again
pub mod Alike
pub mod Begins
pub mod Caused
pub mod Fresh
pub mod Opening
pub mod Planned
