pub mod Logged
pub mod Acts
pub mod Loads
pub mod Laws
