pub mod Lists
pub mod Leads
pub mod Finds
pub mod Admitting
pub mod IndexConstruct
pub mod PlacementPolicy
