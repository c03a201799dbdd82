pub mod Stands
pub mod Transactions
