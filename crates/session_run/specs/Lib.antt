pub mod Printed
pub mod Ran
pub mod Serving
pub mod Timed
