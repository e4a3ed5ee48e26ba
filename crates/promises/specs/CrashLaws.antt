pub mod Safe
pub mod Changes
pub mod Laws
pub mod May
