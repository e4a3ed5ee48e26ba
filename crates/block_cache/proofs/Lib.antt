pub mod KeptLemmas
pub mod LawLemmas
mod UseLemmas
mod WorkedLemmas
pub mod Crossing
