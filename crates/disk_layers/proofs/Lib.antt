pub mod Holding
pub mod Layering
pub mod Overlaid
pub mod Piecing
pub mod Ranges
pub mod Reading
pub mod Steps
