pub mod PlainAsks
pub mod Steps
pub mod TreeLaw
pub mod SpaceFacts
pub mod IndexFacts
pub mod HistoryFacts
pub mod ToldValue
pub mod SealedLaw
