pub mod RowFacts
pub mod TrailLaw
pub mod LoadLaw
pub mod OpLaw
