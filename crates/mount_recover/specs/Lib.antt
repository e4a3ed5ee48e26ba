pub mod Known
pub mod Labels
pub mod Lasts
pub mod Noted
pub mod Steps
