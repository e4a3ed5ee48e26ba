pub mod Bits
pub mod Tries
pub mod Ways
pub mod Keys
pub mod Links
pub mod Listing
