pub mod Filling
pub mod HitLemmas
