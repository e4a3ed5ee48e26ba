pub mod Lines
pub mod Outcomes
pub mod Promises
pub mod Texts
