pub mod Computed
pub mod Patterns
pub mod Policies
pub mod Walks
