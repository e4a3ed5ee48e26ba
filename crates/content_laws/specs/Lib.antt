pub mod Content
pub mod Ends
pub mod Readings
pub mod Worked
