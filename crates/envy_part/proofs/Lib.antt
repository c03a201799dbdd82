mod Dead
pub mod RowLaws
