pub mod Kept
pub mod Listed
pub mod Short
pub mod Walks
pub mod Written
