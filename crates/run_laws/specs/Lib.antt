pub mod Went
pub mod Laws
pub mod Memory
pub mod LogLaws
