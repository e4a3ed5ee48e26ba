pub mod Closing
pub mod Laws
pub mod Near
pub mod Whole
pub mod Ready
pub mod Indexed
pub mod Owned
pub mod May
