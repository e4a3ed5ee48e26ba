pub mod FormLemmas
pub mod LawLemmas
pub mod ListLemmas
pub mod MakeLaws
pub mod MakeLemmas
pub mod VolumeLemmas
pub mod ViewLemmas
