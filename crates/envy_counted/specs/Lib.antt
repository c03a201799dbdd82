pub mod LooseBoard
pub mod StrictBoard
