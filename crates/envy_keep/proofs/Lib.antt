pub mod Begins
pub mod Ends
pub mod Goes
pub mod Serves
