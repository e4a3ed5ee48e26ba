pub mod Blank
pub mod Calls
pub mod Pieces
pub mod Sides
pub mod Slots
pub mod State
