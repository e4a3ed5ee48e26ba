pub mod Told
pub mod Going
pub mod Looping
pub mod Beginning
