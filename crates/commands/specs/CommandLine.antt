pub mod Forms
pub mod Options
pub mod Views
pub mod Volumes
