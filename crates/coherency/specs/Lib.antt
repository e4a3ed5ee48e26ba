pub mod Frame
pub mod Notes
