pub mod Views
pub mod Steps
pub mod Attributes
pub mod Laws
