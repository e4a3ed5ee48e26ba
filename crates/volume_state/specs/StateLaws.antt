pub mod Parts
pub mod Stepping
pub mod Placing
pub mod Tied
