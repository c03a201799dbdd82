pub mod Choosing
