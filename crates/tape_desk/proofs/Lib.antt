mod Entered
mod HereLemmas
mod Making
mod Prints
pub mod Shelved
mod Taken
pub mod Crossing
pub mod Deals
pub mod Gathers
pub mod Own
