pub mod Sides
pub mod Laws
pub mod Within
pub mod Asks
pub mod Worked
pub mod Draining
