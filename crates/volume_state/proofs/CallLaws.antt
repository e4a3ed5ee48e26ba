pub mod Near
pub mod StartFiled
pub mod First
pub mod Tying
pub mod Keeping
pub mod Started
pub mod Placed
pub mod Rightly
pub mod Still
pub mod Voided
pub mod HeldReads
pub mod Uses
pub mod Told
pub mod PutOff
pub mod ReadBlocks
pub mod Wanting
pub mod Waiting
pub mod Shown
pub mod Grouped
pub mod SubmitFiled
pub mod Reread
pub mod SubmitStandings
pub mod Admitted
pub mod Asking
pub mod Truly
pub mod Changed
pub mod SubmitDues
pub mod Synced
pub mod StepDues
pub mod Splits
pub mod CanLaw
pub mod Answered
pub mod Counts
pub mod Syncs
pub mod States
pub mod StepDriven
pub mod StepStandings
pub mod Waits
pub mod Does
pub mod Once
pub mod Taken
pub mod Serves
pub mod Misses
pub mod Blocks
pub mod Gathers
pub mod Fails
pub mod ShowLaw
pub mod Promised
pub mod Begun
mod Within
mod AnswersKept
mod Fitting
mod Driven
pub mod ToClose
pub mod Submitted
pub mod TurnAnswers
mod TurnSteps
pub mod TurnLaw
mod DrainAnswers
mod DrainTies
mod DrainMade
pub mod DrainEnds
pub mod DrainTurn
pub mod Sealed
