pub mod Ahead
pub mod Held
pub mod Layers
