pub mod Allowed
pub mod Running
pub mod ServingSteps
pub mod OwnRuns
pub mod Whole
pub mod WholeLog
