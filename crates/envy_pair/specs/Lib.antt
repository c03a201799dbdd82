pub mod Bills
pub mod Ending
pub mod Hearing
pub mod MirrorRun
pub mod Restarting
pub mod Serving
pub mod State
