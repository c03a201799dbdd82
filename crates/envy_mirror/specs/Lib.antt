pub mod Asking
pub mod Catching
pub mod Mirroring
pub mod Pair
pub mod Reading
pub mod Replies
pub mod Reviving
