pub mod Examples
pub mod Pieces
pub mod Sheets
pub mod Vectors
