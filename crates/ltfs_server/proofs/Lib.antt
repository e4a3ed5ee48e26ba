pub mod Acknowledged
pub mod Asked
mod ClosedRuns
mod DoneReplies
pub mod EndedRuns
pub mod FencedLemmas
pub mod MakeClauses
pub mod HandedBack
pub mod MakeSteps
pub mod PrintedEnds
pub mod Readiness
pub mod Sentences
pub mod ServeClauses
pub mod ServeSteps
pub mod Disks
pub mod AgainLemmas
pub mod Generations
