pub mod Images
pub mod Looks
pub mod Offsets
pub mod Reading
pub mod Records
pub mod Values
pub mod Walks
pub mod Worked
