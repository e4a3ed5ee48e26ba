mod SumLemmas
mod HistoryLemmas
mod RuleLemmas
mod TurnLemmas
mod SeatLemmas
mod EndLemmas
mod SeatStates
pub mod Callers
pub mod Crossing
