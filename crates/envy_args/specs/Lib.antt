pub mod Keep
pub mod Parser
pub mod Reading
pub mod Words
