pub mod Tool
pub mod Outcomes
