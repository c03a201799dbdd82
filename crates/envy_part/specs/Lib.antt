pub mod Dead
pub mod Making
pub mod Orders
pub mod Part
pub mod Placing
