pub mod Answers
pub mod Ending
pub mod Keeping
pub mod Playing
pub mod Since
pub mod Texts
pub mod Turns
