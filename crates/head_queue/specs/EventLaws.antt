pub mod Waiting
pub mod Trail
pub mod Load
pub mod Rows
