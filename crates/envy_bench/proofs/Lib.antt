pub mod Boards
pub mod Draws
pub mod Tears
pub mod PlansLemmas
