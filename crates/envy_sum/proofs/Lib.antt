pub mod Steps
pub mod Words
pub mod Tables
pub mod Bursts
pub mod Bytes
