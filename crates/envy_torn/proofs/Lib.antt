mod Outcomes
mod Written
pub mod Other
mod Drawers
mod Numbered
pub mod Alike
