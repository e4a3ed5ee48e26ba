pub mod Firsts
pub mod Digest
pub mod Crossings
pub mod Rising
