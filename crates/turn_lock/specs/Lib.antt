pub mod Sums
pub mod Histories
pub mod Passes
pub mod Knowing
pub mod Rule
pub mod Steps
