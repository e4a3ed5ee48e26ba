pub mod Assembled
pub mod Items
pub mod Places
pub mod Steps
pub mod Texts
pub mod Writes
