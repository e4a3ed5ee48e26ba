pub mod FormatClauses
pub mod LabelClauses
pub mod ListClauses
pub mod MountClauses
pub mod MountedTree
pub mod PlainClauses
pub mod RunLemmas
pub mod Told
