pub mod Flushes
pub mod GroupLemmas
pub mod TrailLemmas
