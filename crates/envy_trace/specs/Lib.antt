pub mod Commands
pub mod Faults
pub mod Grammar
pub mod Mirror
pub mod Replies
pub mod Spelling
pub mod Stat
pub mod Keep
