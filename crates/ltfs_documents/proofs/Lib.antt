pub mod DocElements
pub mod DocFields
pub mod LtfsText
