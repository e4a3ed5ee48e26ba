pub mod Dealing
pub mod Gathering
pub mod Held
pub mod Passes
pub mod Printed
pub mod Promised
pub mod Turns
