pub mod Ops
pub mod Admissions
pub mod Plans
pub mod IndexConstruct
pub mod PlacementPolicy
