pub mod Beginning
pub mod Left
pub mod Opens
pub mod Plans
pub mod Unserved
