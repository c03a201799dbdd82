pub mod Going
pub mod Lightened
pub mod Telling
pub mod Reopened
