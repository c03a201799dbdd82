pub mod Halving
pub mod Keeping
pub mod Owning
pub mod Total
pub mod Undoing
pub mod Working
