pub mod Phases
pub mod Kept
pub mod Sides
pub mod Laws
pub mod Rows
