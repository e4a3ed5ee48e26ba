pub mod Planned
pub mod Laws
pub mod Examples
