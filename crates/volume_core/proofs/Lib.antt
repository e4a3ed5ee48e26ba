mod Acting
pub mod AdmitLemmas
pub mod Admitted
pub mod Alike
mod AskLemmas
mod BeginLemmas
pub mod Built
pub mod CloseEnds
pub mod CloseGiven
pub mod CostLemmas
mod Counting
pub mod Counts
pub mod Crashing
pub mod DoLemmas
pub mod DoneClose
pub mod DoneIndexed
pub mod DoneLast
pub mod DoneNotes
mod DoneSealed
pub mod DoneStill
pub mod DoneWent
pub mod EndLemmas
pub mod Ended
mod Ends
pub mod Equal
pub mod Exact
mod Faulted
mod Given
pub mod Keeping
mod LeavingLemmas
mod Made
mod MayLemmas
pub mod Mid
pub mod Nodes
pub mod Noting
mod Ready
pub mod Same
mod Serves
pub mod Settled
pub mod Shorts
pub mod Still
mod Submissions
pub mod There
pub mod Unchanged
pub mod VolumeSteps
