pub mod Follows
pub mod Computing
