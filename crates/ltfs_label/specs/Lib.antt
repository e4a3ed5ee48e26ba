pub mod Values
pub mod Reading
pub mod Grammar
pub mod Canonical
