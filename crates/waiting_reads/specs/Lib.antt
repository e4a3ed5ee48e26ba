pub mod Gathering
pub mod Stands
pub mod Waiting
