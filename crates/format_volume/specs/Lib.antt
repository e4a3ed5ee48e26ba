pub mod Meanings
pub mod Outcomes
pub mod Refusals
pub mod Steps
pub mod Texts
pub mod Volumes
pub mod Writes
