pub mod Changed
pub mod Cuts
pub mod ListLaws
pub mod Ordered
pub mod PlaceLemmas
pub mod SortLemmas
