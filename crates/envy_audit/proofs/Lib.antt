pub mod Headings
pub mod Looking
pub mod Marks
pub mod Naming
pub mod Order
pub mod Owners
pub mod Sounding
pub mod Turning
