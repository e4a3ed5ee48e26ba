pub mod Clocks
pub mod Devices
pub mod Streams
pub mod Inputs
