pub mod Asking
pub mod Fetching
pub mod InMemory
pub mod Lines
pub mod Streams
pub mod Taking
pub mod Asked
pub mod Holding
