pub mod TrailLemmas
mod PlacementLemmas
mod MovedLemmas
pub mod LetGoLemmas
